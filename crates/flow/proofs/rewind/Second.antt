-- The second half of demand 3 with named places: behind the last return the login packets asked for are timed again; and
-- while none is taken, keeping and refused returns are calls that do nothing. Assumes nothing.
use Prim.Native.Nat.{ℕ, ◌≤◌}
use native.Mathlib.Omega.{arith}
use mathlib.Core.Path.{◌≡◌, refl, sym, ap, ◌∙◌}
use mathlib.Core.List.{List, [], ◌∷◌, ◌++◌, map}
use mathlib.Core.Bool.{Bool, true, false, cond}
use lib.ListN.{length}
use lib.Seq.{drop-length}
use Rattle.ftd.specs.Types.{TradeDate}
use Rattle.flow.specs.declared.receiver.KeptSeries.{KeptSeries}
use Rattle.flow.specs.declared.receiver.LiveSeries.{LiveSeries}
use Rattle.flow.specs.declared.receiver.Receiver.{Receiver}
use Rattle.flow.specs.declared.checkpoint.Checkpoints.{Checkpoints}
use Rattle.flow.specs.Types.{Saved}
use Rattle.flow.specs.Types.{Restored}
use Rattle.flow.specs.Types.{Opened}
use Rattle.flow.specs.Ends.{Left, day_of, last_of, is_open, kept_of, wrong_series}
use Rattle.flow.specs.Answers.{is_taken, restored_said}
use Rattle.flow.specs.Receiving.{open_end_of}
use Rattle.flow.specs.Checkpoints.{checkpoint_of, restored, restore_of, brought_back}
use Rattle.flow.specs.World.{Event, open_receiver, login, after_reopen, ReceiverSide, World, receives, step, run}
use Rattle.flow.specs.Agreement.{CaughtUp, reported, published_on}
use Rattle.flow.specs.Rewind.{RewindEvent, call, keep, restore, Histories, Memory, remember, memory_of, RewindWorld}
use Rattle.flow.specs.Rewind.{rewind_start, run_over, after_keep, returned, after_restore, rewind_step, rewind_run}
use Rattle.flow.specs.Rewind.{AsAt}
use Rattle.flow.proofs.common.Bools.{clash}
use Rattle.flow.proofs.common.Days.{Upto, upto-along}
use Rattle.flow.proofs.calls.Receiving.{Opened-as, opens, open-as}
use Rattle.flow.proofs.ends.ReceiverLookups.{Eight}
use Rattle.flow.proofs.steps.Turns.{turn-open}
use Rattle.flow.proofs.source.Days.{day-rises}
use Rattle.flow.proofs.logins.Taken.{LoginTaken}
use Rattle.flow.proofs.logins.Consistent.{is_link, line-turn}
use Rattle.flow.proofs.logins.Starts.{Timely, timely-line, timely-start}
use Rattle.flow.proofs.lines.Steps.{LineStep, calls, run-steps, run-spares}
use Rattle.flow.proofs.lines.Moves.{line-moves}
use Rattle.flow.proofs.second.Due.{grows-step}
use Rattle.flow.proofs.second.Half.{caught-up, settled}
use Rattle.flow.proofs.rewind.Lookups.{fresh-four}
use Rattle.flow.proofs.rewind.Restored.{resting-same, restored-open, restored-eight, restored-live, restored-each}
use Rattle.flow.proofs.rewind.Linked.{Keeps-as, keep-as, keeps, Restores-as, restore-as, restores, Linked}
use Rattle.flow.proofs.rewind.Linked.{linked-fresh, linked_on, linked-keep}
use Rattle.flow.proofs.rewind.First.{Older, older-on, back_as, safe-along, safe-start, safe-step}
use Rattle.std.specs.Prelude.{Some, None}

-- ─── A memory ───

-- Without a day nothing was received, and no day is above the serving end's; what was open then is open now.
pub record Prior (o : TradeDate) (e : Receiver) (m : Memory Histories) : Type 0 where
  pub older : Older e m
  pub undated : (s : ℕ) → day_of m.end s ≡ None → last_of m.end s ≡ 0
  pub behind : (s : ℕ) → Upto (day_of m.end s) o

prior-on : (o o' : TradeDate) (e e' : Receiver) → Upto o o' → ((s : ℕ) → is_open e s ≡ true → is_open e' s ≡ true)
    → (m : Memory Histories) → Prior o e m → Prior o' e' m
prior-on o o' e e' u f m h =
    record {
      older = older-on e m h.older e' f;
      undated = h.undated;
      behind = λ s. upto-along (day_of m.end s) o o' (h.behind s) u;
    }

-- ─── The receiving side ───

prior-now : {from : ℕ} (w : World) → Timely from w → (name : List ℕ)
    → Prior w.serving.day w.receiving.end (remember name w.receiving)
prior-now w h name =
    record {
      older = record { opens = λ s o. o };
      undated = λ s. undated s (is_open w.receiving.end s);
      behind = λ s. behind s (is_open w.receiving.end s);
    }
  where
    undated : (s : ℕ) (b : Bool) → cond b (kept_of w.receiving.end s).date None ≡ None
        → cond b (kept_of w.receiving.end s).last 0 ≡ 0
    undated s true q = h.receiving.undated s q
    undated s false q = refl

    behind : (s : ℕ) (b : Bool) → Upto (cond b (kept_of w.receiving.end s).date None) w.serving.day
    behind s true = h.behind s
    behind s false = tt

timely-over : {from : ℕ} (w : World) → Timely from w → Timely from (receives w (run_over w.receiving))
timely-over w h =
    record {
      source = h.source;
      receiving = h.receiving;
      behind = h.behind;
      inside = h.inside;
      requests-ok = h.requests-ok;
    }

-- A return: the login packets of before don't count.
timely-back : {from : ℕ} (w : World) → Timely from w → (m : Memory Histories) → Prior w.serving.day w.receiving.end m
    → Timely (length w.receiving.requests) (receives w (returned w.receiving (restored w.receiving.end m.end.kept) m.what))
timely-back w h m k =
    record {
      source = h.source;
      receiving =
          record {
            eight = restored-eight w.receiving.end m.end.kept h.receiving.eight;
            undated = restored-each w.receiving.end m.end.kept (λ x. x.date ≡ None → x.last ≡ 0)
                (λ x. undated x) (λ q. refl);
            dated = λ s q. clash _ q
                (ap (λ (l : LiveSeries). l.login) (restored-live w.receiving.end m.end.kept s));
          };
      behind = restored-each w.receiving.end m.end.kept (λ x. Upto x.date w.serving.day)
          (λ x. behind x) tt;
      inside = omega arith;
      requests-ok = rw (drop-length w.receiving.requests) tt;
    }
  where
    undated : (x : KeptSeries) → (brought_back m.end.kept x).date ≡ None → (brought_back m.end.kept x).last ≡ 0
    undated x q =
        let y = resting-same m.end x.series in
        y.1 ∙ k.undated x.series (sym y.0 ∙ q)

    behind : (x : KeptSeries) → Upto (brought_back m.end.kept x).date w.serving.day
    behind x = rw (resting-same m.end x.series).0 (k.behind x.series)

-- ─── The world ───

pub record TimelyRewind (w : RewindWorld) : Type 0 where
  pub timely : Timely w.asked w.now
  pub links : Linked (Prior w.now.serving.day w.now.receiving.end) w.checkpoints w.memories

pub timely-fresh : (log buffer : List ℕ) → TimelyRewind (rewind_start log buffer)
unfolding rewind_start
timely-fresh log buffer =
    record {
      timely = timely-start log buffer;
      links = linked-fresh _ fresh-four;
    }

module _ (w : RewindWorld) (h : TimelyRewind w) where
  abbrev v : ReceiverSide
  v = w.now.receiving

  kept : (name : List ℕ) (r : Left Checkpoints Saved) → Keeps-as w.checkpoints v.end name r
      → TimelyRewind (after_keep w name r)
  kept name r (Keeps-as.refuses x) =
      record { timely = timely-over w.now h.timely; links = h.links }
  kept name r (keeps a room) =
      record {
        timely = timely-over w.now h.timely;
        links = linked-keep _ w.checkpoints w.memories h.links (remember name v) a room _ (λ m n x. x)
            (prior-now w.now h.timely name);
      }

  brought : (name : List ℕ) (r : Left Receiver Restored) → Restores-as w.checkpoints v.end name r
      → TimelyRewind (after_restore w name r)
  brought name r (Restores-as.refuses x) =
      record { timely = timely-over w.now h.timely; links = h.links }
  brought name r (restores a u) = go (h.links.each name a u).memory ((h.links.each name a u).found (remember name v))
      (h.links.each name a u).is (h.links.each name a u).holds
    where
      go : (m : Memory Histories) → memory_of name (remember name v) w.memories ≡ m
          → checkpoint_of w.checkpoints name ≡ m.end.kept → Prior w.now.serving.day v.end m
          → TimelyRewind (after_restore w name r)
      go m f i k =
          rw (f, i) (record {
            timely = timely-back w.now h.timely m k;
            links = linked_on _ _ w.checkpoints w.memories
                (prior-on w.now.serving.day w.now.serving.day v.end (restored v.end m.end.kept)
                (same-day w.now.serving.day) (λ s o. restored-open v.end m.end.kept s ∙ o))
                h.links;
          })
        where
          same-day : (d : TradeDate) → Upto d d
          same-day None = tt
          same-day (Some d) = omega arith

  -- Any step of the line.
  pub timely-on-line : {u : World} → LineStep w.now u →
      TimelyRewind (record { now = u; checkpoints = w.checkpoints; memories = w.memories; asked = w.asked })
  timely-on-line {u} l =
      let m = line-moves l in
      let turn = (line-turn h.timely.source.answers l).turn in
      record {
        timely = timely-line h.timely l;
        links = linked_on _ _ w.checkpoints w.memories
            (prior-on w.now.serving.day u.serving.day v.end u.receiving.end
            (day-rises w.now.serving u.serving m h.timely.source.served)
            (turn-open w.now.serving.day (is_link l) v.end h.timely.receiving.eight u.receiving.end _ _
            turn))
            h.links;
      }

  pub timely-next : (e : RewindEvent) → TimelyRewind (rewind_step w e)
  timely-next (call e) = timely-on-line (calls e)
  timely-next (keep name) = kept name _ (keep-as w.checkpoints v.end name)
  timely-next (restore name) = brought name _ (restore-as w.checkpoints v.end name)

  -- A return that is taken brings back what the end had at the last keeping of the name.
  pub brings : (name : List ℕ) →
      is_taken (restored_said (restore_of w.checkpoints v.end name).answer) ≡ true →
      AsAt (rewind_step w (restore name)).now.receiving.end
      (memory_of name (remember name v) w.memories).end
  brings name = go (restore_of w.checkpoints v.end name) (restore-as w.checkpoints v.end name)
    where
      go : (r : Left Receiver Restored) → Restores-as w.checkpoints v.end name r
          → is_taken (restored_said r.answer) ≡ true →
          AsAt (after_restore w name r).now.receiving.end (memory_of name (remember name v) w.memories).end
      go r (Restores-as.refuses x) q = clash _ q refl
      go r (restores a u) q =
          let t = h.links.each name a u in
          rw (t.found (remember name v), t.is) (back_as v.end t.memory t.holds.older)

pub timely-along : (w : RewindWorld) → TimelyRewind w → (es : List RewindEvent) → TimelyRewind (rewind_run w es)
timely-along w h [] = h
timely-along w h (e ∷ es) = timely-along (rewind_step w e) (timely-next w h e) es

-- ─── While no return is taken ───

-- Keeping and a refused return do what a refused opening does: nothing, but a run is over.
abbrev plainly : RewindEvent → Event
plainly (call e) = e
plainly (keep name) = open_receiver []
plainly (restore name) = open_receiver []

no-series : wrong_series [] ≡ true
unfolding wrong_series
no-series = refl

pub refused-opening : (w : World) → step w (open_receiver []) ≡ receives w (run_over w.receiving)
refused-opening w = go (open_end_of w.receiving.end []) (open-as w.receiving.end [])
  where
    go : (r : Left Receiver Opened) → Opened-as w.receiving.end [] r
        → receives w (after_reopen w.receiving r) ≡ receives w (run_over w.receiving)
    go r Opened-as.refuses = refl
    go r (opens z q) = clash _ no-series q

module _ (w : RewindWorld) where
  quiet-keep : (name : List ℕ) → (rewind_step w (keep name)).now ≡ step w.now (open_receiver [])
  quiet-keep name = sym (refused-opening w.now)

  quiet-restore : (name : List ℕ) → (rewind_step w (restore name)).now.receiving.restarts ≡ w.now.receiving.restarts
      → (rewind_step w (restore name)).now ≡ step w.now (open_receiver [])
  quiet-restore name =
      go (restore_of w.checkpoints w.now.receiving.end name)
      (restore-as w.checkpoints w.now.receiving.end name)
    where
      go : (r : Left Receiver Restored) → Restores-as w.checkpoints w.now.receiving.end name r
          → (after_restore w name r).now.receiving.restarts ≡ w.now.receiving.restarts
          → (after_restore w name r).now ≡ step w.now (open_receiver [])
      go r (Restores-as.refuses x) q = sym (refused-opening w.now)
      go r (restores a u) q = absurd (omega arith)

  quiet_step : (e : RewindEvent) → (rewind_step w e).now.receiving.restarts ≡ w.now.receiving.restarts
      → (rewind_step w e).now ≡ step w.now (plainly e)
  quiet_step (call e) q = refl
  quiet_step (keep name) q = quiet-keep name
  quiet_step (restore name) q = quiet-restore name q

  restarts-step : Eight w.now.receiving.end → (e : RewindEvent)
      → w.now.receiving.restarts ≤ (rewind_step w e).now.receiving.restarts
  restarts-step h (call e) = (grows-step w.now h e).restarts
  restarts-step h (keep name) = omega arith
  restarts-step h (restore name) =
      go (restore_of w.checkpoints w.now.receiving.end name)
      (restore-as w.checkpoints w.now.receiving.end name)
    where
      go : (r : Left Receiver Restored) → Restores-as w.checkpoints w.now.receiving.end name r
          → w.now.receiving.restarts ≤ (after_restore w name r).now.receiving.restarts
      go r (Restores-as.refuses x) = omega arith
      go r (restores a u) = omega arith

restarts-along : (w : RewindWorld) → TimelyRewind w → (es : List RewindEvent)
    → w.now.receiving.restarts ≤ (rewind_run w es).now.receiving.restarts
restarts-along w h [] = omega arith
restarts-along w h (e ∷ es) =
    let a = restarts-step w h.timely.receiving.eight e in
    let b = restarts-along (rewind_step w e) (timely-next w h e) es in
    omega arith

-- A list of events with no return that is taken is one of the world of before.
pub quiet-run : (w : RewindWorld) → TimelyRewind w → (es : List RewindEvent)
    → (rewind_run w es).now.receiving.restarts ≡ w.now.receiving.restarts
    → (rewind_run w es).now ≡ run w.now (map plainly es)
quiet-run w h [] q = refl
quiet-run w h (e ∷ es) q =
    let a = restarts-step w h.timely.receiving.eight e in
    let b = restarts-along (rewind_step w e) (timely-next w h e) es in
    let c : (rewind_step w e).now.receiving.restarts ≡ w.now.receiving.restarts = omega arith in
    let d : (rewind_run (rewind_step w e) es).now.receiving.restarts ≡ (rewind_step w e).now.receiving.restarts =
    omega arith in
    let f = quiet_step w e c in
    quiet-run (rewind_step w e) (timely-next w h e) es d ∙ ap (λ (x : World). run x (map plainly es)) f

-- ─── The second half ───

pub rewind-append : (w : RewindWorld) (es fs : List RewindEvent)
    → rewind_run w (es ++ fs) ≡ rewind_run (rewind_run w es) fs
rewind-append w [] fs = refl
rewind-append w (e ∷ es) fs = rewind-append (rewind_step w e) es fs

pub same_place : (s t i j : ℕ) (a b c d : List ℕ) → login s i a b ≡ login t j c d → i ≡ j
same_place s t i j a b c d q = cc

pub rewind-complete : (log buffer : List ℕ) (es fs : List RewindEvent) (s i : ℕ) (content answer : List ℕ) (d : ℕ)
    (a out : List ℕ) →
    let e = call (login s i content answer) in
    let u = rewind_run (rewind_start log buffer) es in
    let v = rewind_step u e in
    let w = rewind_run v fs in
    u.asked ≤ i → CaughtUp u.now v.now w.now s d a out
    → reported w.now s d ≡ length (published_on w.now s d)
rewind-complete log buffer es fs s i content answer d a out asked c =
    let o = rewind_start log buffer in
    let e = login s i content answer in
    let u = rewind_run o es in
    let v = rewind_step u (call e) in
    let w = rewind_run v fs in
    let h = timely-along o (timely-fresh log buffer) es in
    let h-v = timely-next u h (call e) in
    let safe-w = safe-along v (safe-step u (safe-along o (safe-start log buffer) es) (call e)) fs in
    let plain = quiet-run v h-v fs c.no-restart in
    let from : (t : LoginTaken u.now e s a) → u.asked ≤ t.place =
    λ t. omega (arith, asked, same_place s s i t.place content answer t.content t.out t.event) in
    let more = map plainly fs in
    let there =
    caught-up u.now e (run-steps v.now more) s d a out (run-spares s d v.now more) h.timely from
    (rw plain at c) in
    settled w.now s d (rw (← plain) at there) safe-w.safe
