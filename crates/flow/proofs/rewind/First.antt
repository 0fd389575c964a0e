-- The first half of demand 3 with named places: each event keeps the receiving side right, and with it all that is
-- remembered. Assumes nothing.
use Prim.Native.Nat.{ℕ}
use mathlib.Core.Path.{◌≡◌, refl, sym, ap, ◌∙◌}
use mathlib.Core.List.{List, [], ◌∷◌, ◌++◌}
use mathlib.Core.Bool.{true}
use Rattle.flow.specs.declared.receiver.LiveSeries.{LiveSeries}
use Rattle.flow.specs.declared.receiver.Receiver.{Receiver}
use Rattle.flow.specs.declared.checkpoint.Checkpoints.{Checkpoints}
use Rattle.flow.specs.Types.{Saved}
use Rattle.flow.specs.Types.{Restored}
use Rattle.flow.specs.Ends.{Left, day_of, last_of, is_open}
use Rattle.flow.specs.Answers.{Message}
use Rattle.flow.specs.Checkpoints.{checkpoint_of, restored}
use Rattle.flow.specs.World.{Dated, latest_of, ReceiverSide, World}
use Rattle.flow.specs.Agreement.{Agreed, EachDated}
use Rattle.flow.specs.Rewind.{RewindEvent, call, keep, restore, Histories, Memory, remember, RewindWorld}
use Rattle.flow.specs.Rewind.{rewind_start, run_over, after_keep, returned, after_restore, rewind_step, rewind_run}
use Rattle.flow.specs.Rewind.{AsAt}
use Rattle.flow.proofs.common.Extends.{Extends}
use Rattle.flow.proofs.steps.Turns.{turn-open}
use Rattle.flow.proofs.right.Right.{right-grows}
use Rattle.flow.proofs.right.Chain.{chain-none}
use Rattle.flow.proofs.right.Kept.{AllRight, right-stays}
use Rattle.flow.proofs.lines.Steps.{LineStep, calls}
use Rattle.flow.proofs.lines.Moves.{line-moves}
use Rattle.flow.proofs.source.Growth.{move-grows}
use Rattle.flow.proofs.source.Sources.{Source, move-source, start-source}
use Rattle.flow.proofs.logins.Consistent.{is_link, line-turn}
use Rattle.flow.proofs.first.Safe.{Safe}
use Rattle.flow.proofs.first.Half.{SafeWorld, start-safe, line-safe, safe-agreed}
use Rattle.flow.proofs.rewind.Lookups.{fresh-four}
use Rattle.flow.proofs.rewind.Restored.{resting-open, resting-same, restored-open, restored-eight, restored-live}
use Rattle.flow.proofs.rewind.Restored.{restored-as}
use Rattle.flow.proofs.rewind.Linked.{Keeps-as, keep-as, keeps, Restores-as, restore-as, restores, Linked}
use Rattle.flow.proofs.rewind.Linked.{linked-fresh, linked_on, linked-keep}
use Rattle.std.specs.Prelude.{None}

-- ─── A memory ───

-- What was open then is open now. (An end opens once.)
pub record Older {A : Type 0} (e : Receiver) (m : Memory A) : Type 0 where
  pub opens : (s : ℕ) → is_open m.end s ≡ true → is_open e s ≡ true

-- And its histories are right for what is published by now.
pub record Sound (P : List (Dated Message)) (e : Receiver) (m : Memory Histories) : Type 0 where
  pub older : Older e m
  pub days : (s : ℕ) → day_of m.end s ≡ latest_of s None m.what.days
  pub right : AllRight m.end P m.what.handed m.what.reports
  pub dated : EachDated m.what.handed × EachDated m.what.reports

-- An end that brings back what a memory's end kept.
module _ {A : Type 0} (e : Receiver) (m : Memory A) (older : Older e m) where
  pub back_as : AsAt (restored e m.end.kept) m.end
  back_as s =
      let a = restored-as e m.end.kept (λ t o. older.opens t (sym (resting-open m.end t) ∙ o)) s in
      let b = resting-same m.end s in
      (a.0 ∙ b.0, a.1 ∙ b.1)

  -- The same at any later time.
  pub older-on : (e' : Receiver) → ((s : ℕ) → is_open e s ≡ true → is_open e' s ≡ true) → Older e' m
  older-on e' f = record { opens = λ s o. f s (older.opens s o) }

sound-on : (P Q : List (Dated Message)) (e e' : Receiver) → Extends P Q
    → ((s : ℕ) → is_open e s ≡ true → is_open e' s ≡ true) → (m : Memory Histories) → Sound P e m → Sound Q e' m
sound-on P Q e e' x f m h =
    record {
      older = older-on e m h.older e' f;
      days = h.days;
      right = λ s. rw x.1 (right-grows s P m.what.handed m.what.reports (day_of m.end s) (last_of m.end s) x.0
          (h.right s));
      dated = h.dated;
    }

-- ─── The receiving side ───

-- A run is over.
safe-over : (P : List (Dated Message)) (v : ReceiverSide) → Safe P v → Safe P (run_over v)
safe-over P v h = record { eight = h.eight; days = h.days; right = h.right; dated = h.dated }

-- What is remembered now is right.
sound-now : (P : List (Dated Message)) (v : ReceiverSide) → Safe P v → (name : List ℕ)
    → Sound P v.end (remember name v)
sound-now P v h name =
    record {
      older = record { opens = λ s o. o };
      days = h.days;
      right = h.right.right;
      dated = h.dated;
    }

-- A return.
safe-back : (P : List (Dated Message)) (v : ReceiverSide) → Safe P v → (m : Memory Histories) → Sound P v.end m
    → Safe P (returned v (restored v.end m.end.kept) m.what)
safe-back P v h m k =
    let e = restored v.end m.end.kept in
    let was = back_as v.end m k.older in
    record {
      eight = restored-eight v.end m.end.kept h.eight;
      days = λ s. (was s).0 ∙ k.days s;
      right =
          record {
            right = right-stays P m.what.handed m.what.reports m.end e was k.right;
            chains = λ s. chain-none P e v.buffer s
                (ap (λ (l : LiveSeries). l.chain) (restored-live v.end m.end.kept s));
          };
      dated = k.dated;
    }

-- ─── The world ───

pub record SafeRewind (w : RewindWorld) : Type 0 where
  pub source : Source w.now.serving
  pub safe : SafeWorld w.now
  pub links : Linked (Sound w.now.serving.published w.now.receiving.end) w.checkpoints w.memories

pub safe-start : (log buffer : List ℕ) → SafeRewind (rewind_start log buffer)
unfolding rewind_start
safe-start log buffer =
    record {
      source = start-source log buffer;
      safe = start-safe log buffer;
      links = linked-fresh _ fresh-four;
    }

module _ (w : RewindWorld) (h : SafeRewind w) where
  abbrev P : List (Dated Message)
  P = w.now.serving.published

  abbrev v : ReceiverSide
  v = w.now.receiving

  kept : (name : List ℕ) (r : Left Checkpoints Saved) → Keeps-as w.checkpoints v.end name r
      → SafeRewind (after_keep w name r)
  kept name r (Keeps-as.refuses x) =
      record { source = h.source; safe = safe-over P v h.safe; links = h.links }
  kept name r (keeps a room) =
      record {
        source = h.source;
        safe = safe-over P v h.safe;
        links = linked-keep _ w.checkpoints w.memories h.links (remember name v) a room _ (λ m n x. x)
            (sound-now P v h.safe name);
      }

  brought : (name : List ℕ) (r : Left Receiver Restored) → Restores-as w.checkpoints v.end name r
      → SafeRewind (after_restore w name r)
  brought name r (Restores-as.refuses x) =
      record { source = h.source; safe = safe-over P v h.safe; links = h.links }
  brought name r (restores a u) =
      let t = h.links.each name a u in
      let e = restored v.end (checkpoint_of w.checkpoints name) in
      record {
        source = h.source;
        safe = rw (t.found (remember name v), t.is)
            (safe-back P v h.safe t.memory t.holds);
        links = linked_on _ _ w.checkpoints w.memories
            (sound-on P P v.end e ([], sym (append-none P)) λ s o. restored-open v.end _ s ∙ o)
            h.links;
      }
    where
      append-none : (l : List (Dated Message)) → l ++ [] ≡ l
      append-none [] = refl
      append-none (x ∷ l) = ap (λ (r : List (Dated Message)). x ∷ r) (append-none l)

  -- Any step of the line.
  pub safe-on-line : {u : World} → LineStep w.now u →
      SafeRewind (record { now = u; checkpoints = w.checkpoints; memories = w.memories; asked = w.asked })
  safe-on-line {u} l =
      let m = line-moves l in
      let turn = (line-turn h.source.answers l).turn in
      record {
        source = move-source w.now.serving u.serving m h.source;
        safe = line-safe l h.source.begun h.safe;
        links = linked_on _ _ w.checkpoints w.memories
            (sound-on P u.serving.published v.end u.receiving.end
            (move-grows w.now.serving u.serving m).published
            (turn-open w.now.serving.day (is_link l) v.end h.safe.eight u.receiving.end _ _ turn))
            h.links;
      }

  pub safe-step : (e : RewindEvent) → SafeRewind (rewind_step w e)
  safe-step (call e) = safe-on-line (calls e)
  safe-step (keep name) = kept name _ (keep-as w.checkpoints v.end name)
  safe-step (restore name) = brought name _ (restore-as w.checkpoints v.end name)

pub safe-along : (w : RewindWorld) → SafeRewind w → (es : List RewindEvent) → SafeRewind (rewind_run w es)
safe-along w h [] = h
safe-along w h (e ∷ es) = safe-along (rewind_step w e) (safe-step w h e) es

pub safe-rewind : (log buffer : List ℕ) (es : List RewindEvent) → SafeRewind (rewind_run (rewind_start log buffer) es)
safe-rewind log buffer es = safe-along (rewind_start log buffer) (safe-start log buffer) es

pub rewind-agreed : (log buffer : List ℕ) (es : List RewindEvent) (s d : ℕ)
    → Agreed (rewind_run (rewind_start log buffer) es).now s d
rewind-agreed log buffer es s d =
    safe-agreed (rewind_run (rewind_start log buffer) es).now s d (safe-rewind log buffer es).safe
