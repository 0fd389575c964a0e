-- The numbers over the calls that count, with named places to come back to. Assumes nothing.
use Prim.Native.Nat.{ℕ, zero, suc, ◌+◌, ◌<◌}
use native.Mathlib.Omega.{arith}
use mathlib.Core.Path.{◌≡◌, refl, sym, ap, ◌∙◌}
use mathlib.Core.List.{List, [], ◌∷◌, ◌++◌, map, append-nil, append_assoc}
use mathlib.Core.Bool.{Bool, true, false, cond}
use mathlib.Core.Option.{Option, none, some}
use borrow.Author.Tests.{eqb-true, eq-eqb}
use lib.Dec.{eqb}
use lib.ListN.{length}
use Rattle.ftd.specs.Packet.{dated_of}
use Rattle.ftd.specs.Follow.{also, counting}
use Rattle.ftd.proofs.Follow.{counting-length}
use Rattle.ftd.specs.Types.{TradeDate}
use Rattle.ftd.specs.declared.packet.Packet.{Packet}
use Rattle.ftd.specs.declared.packet.Packet.TheVariants.{Short, Link, Skipped, Message, Refused}
use Rattle.flow.specs.declared.receiver.Receiver.{Receiver}
use Rattle.flow.specs.declared.checkpoint.Checkpoints.{Checkpoints}
use Rattle.flow.specs.Types.{Saved}
use Rattle.flow.specs.Types.{Restored}
use Rattle.flow.specs.Ends.{Left, is_day, day_of, last_of, is_open}
use Rattle.flow.specs.Receiving.{receive_of}
use Rattle.flow.specs.Checkpoints.{checkpoint_of, restored}
use Rattle.flow.specs.World.{Dated, dated, borne}
use Rattle.flow.specs.Agreement.{of}
use Rattle.flow.specs.Follows.{Lent, Call, opening, connect, ask, answer, receive, lend, behind, number_for}
use Rattle.flow.specs.Follows.{hands_over, took_of, day_for, of_series, takes_on}
use Rattle.flow.specs.Rewind.{Memory, AsAt}
use Rattle.flow.specs.RewindNumbers.{taken_in, taken_by, RewindCall, call, keep, restore, Numbering, numbering_start}
use Rattle.flow.specs.RewindNumbers.{memory_now, after_save, after_back, numbering_step, numbering_run, CountsFromOne}
use Rattle.flow.specs.RewindNumbers.{ComesBack, RewindNumbers}
use Rattle.flow.proofs.Follows.{law}
use Rattle.ftd.proofs.Return.{returns}
use Rattle.flow.proofs.common.Bools.{clash}
use Rattle.flow.proofs.common.Days.{Above, day-is, upto-same}
use Rattle.flow.proofs.common.Histories.{of-append}
use Rattle.flow.proofs.ends.ReceiverLookups.{Eight}
use Rattle.flow.proofs.ends.ReceiverOpened.{fresh-eight, fresh-closed}
use Rattle.flow.proofs.steps.Turns.{connects, open_turn, request-turn, confirm-turn, receive-turn, turn-eight}
use Rattle.flow.proofs.steps.Turns.{stays, turn-open}
use Rattle.flow.proofs.logins.Consistent.{Turned, turned}
use Rattle.flow.proofs.numbers.Does.{Does, nothing, next, opens, begins, call-does}
use Rattle.flow.proofs.rewind.Lookups.{fresh-four}
use Rattle.flow.proofs.rewind.Restored.{restored-open, restored-eight, restored-as, resting-open, resting-same}
use Rattle.flow.proofs.rewind.Linked.{Keeps-as, keep-as, keeps, Restores-as, restore-as, restores, Linked}
use Rattle.flow.proofs.rewind.Linked.{linked-fresh, linked_on, linked-keep}
use Rattle.flow.proofs.rewind.First.{Older, older-on, back_as}
use Rattle.std.specs.Prelude.{Some, None}

-- ─── What a call takes, of one series and day ───

taken_is : (s d : ℕ) (e : Receiver) (date : TradeDate) (p : Packet) → of s d (taken_in e date p)
    ≡ also (cond (is_day d (borne date (day_of e s))) (number_for s p) none) []
taken_is s d e date (Short n) = sym (empty (is_day d (borne date (day_of e s))))
  where
    empty : (b : Bool) → also (cond b none none) [] ≡ []
    empty true = refl
    empty false = refl
taken_is s d e date (Link kind extension) = sym (empty (is_day d (borne date (day_of e s))))
  where
    empty : (b : Bool) → also (cond b none none) [] ≡ []
    empty true = refl
    empty false = refl
taken_is s d e date (Skipped kind extension body) = sym (empty (is_day d (borne date (day_of e s))))
  where
    empty : (b : Bool) → also (cond b none none) [] ≡ []
    empty true = refl
    empty false = refl
taken_is s d e date (Message h extension content) = go (eqb h.series s) refl
  where
    other : (b : Bool) → ◌≡◌ {A = List ℕ} [] (also (cond b none none) [])
    other true = refl
    other false = refl

    same : (b : Bool) → cond b (h.number ∷ []) [] ≡ also (cond b (some h.number) none) []
    same true = refl
    same false = refl

    go : (b : Bool) → eqb h.series s ≡ b →
        of s d (dated h.series (borne date (day_of e h.series)) h.number ∷ [])
        ≡ also (cond (is_day d (borne date (day_of e s))) (cond (eqb h.series s) (some h.number) none) none) []
    go true q =
        let z : h.series ≡ s = eqb-true h.series s q in
        rw (z, eq-eqb s s refl) (same (is_day d (borne date (day_of e s))))
    go false q = rw q (other (is_day d (borne date (day_of e s))))
taken_is s d e date (Refused r) = sym (empty (is_day d (borne date (day_of e s))))
  where
    empty : (b : Bool) → also (cond b none none) [] ≡ []
    empty true = refl
    empty false = refl

takes-is : (s d : ℕ) (v : Lent) (c : Call)
    → of s d (taken_by v c) ≡ also (cond (is_day d (day_for s v c)) (took_of s v c) none) []
takes-is s d v (opening ss) = refl
takes-is s d v connect = refl
takes-is s d v (ask t content out) = refl
takes-is s d v (answer t p) = refl
takes-is s d v (receive p) = go (hands_over (receive_of v.end p v.buffer).answer)
  where
    empty : (b : Bool) → ◌≡◌ {A = List ℕ} [] (also (cond b none none) [])
    empty true = refl
    empty false = refl

    go : (b : Bool) → of s d (cond b (taken_in v.end (dated_of p).date (dated_of p).packet) [])
        ≡ also (cond (is_day d (borne (dated_of p).date (day_of v.end s)))
        (cond b (number_for s (dated_of p).packet) none) none) []
    go true = taken_is s d v.end (dated_of p).date (dated_of p).packet
    go false = empty (is_day d (borne (dated_of p).date (day_of v.end s)))
takes-is s d v (lend buffer) = refl

-- ─── One day of one series ───

record OnDay (d : ℕ) (date : TradeDate) (last : ℕ) (l : List ℕ) : Type 0 where
  k : ℕ
  numbers : l ≡ counting 1 k
  today : date ≡ Some d → last ≡ k
  later : Above d date → l ≡ []

counting-last : (w k : ℕ) → counting w k ++ ((w + k) ∷ []) ≡ counting w (suc k)
counting-last w zero = ap (λ (n : ℕ). n ∷ []) (omega arith)
counting-last w (suc k) =
    ap (λ (l : List ℕ). w ∷ l)
    (ap (λ (n : ℕ). counting (w + 1) k ++ (n ∷ [])) (omega arith) ∙ counting-last (w + 1) k)

none-counted : (k : ℕ) → counting 1 k ≡ [] → k ≡ 0
none-counted k q = sym (counting-length 1 k) ∙ ap length q

above-along : (d k : ℕ) (date : TradeDate) → k < d → Above k date → Above d date
above-along d k None a b = tt
above-along d k (Some c) a b = omega arith

at_same : (x : TradeDate) (a b : ℕ) → x ≡ Some a → x ≡ Some b → a ≡ b
at_same x a b p q = cc

same-empty : (b : Bool) (o : Option ℕ) → o ≡ none → also (cond b o none) [] ≡ []
same-empty true o q = rw q
same-empty false o q = refl

module _ (d : ℕ) (l : List ℕ) where
  on-turn : (date : TradeDate) (last : ℕ) (anew : Bool) (took : Option ℕ) (day after : TradeDate) (n : ℕ)
      → Does date last anew took day after n → OnDay d date last l
      → OnDay d after n (l ++ also (cond (is_day d day) took none) [])
  on-turn date last anew took day after n (nothing a t x y) h =
      rw (same-empty (is_day d day) took t, append-nil l, x, y) h
  on-turn date last anew took day after n (next a t b x y) h = rw (t, b, x, y) (go (is_day d date) refl)
    where
      go : (c : Bool) → is_day d date ≡ c → OnDay d date (last + 1) (l ++ also (cond c (some (last + 1)) none) [])
      go true q =
          let at = day-is d date q in
          let z : last ≡ h.k = h.today at in
          record {
            k = suc h.k;
            numbers =
                ap (λ (m : List ℕ). m ++ ((last + 1) ∷ [])) h.numbers
                ∙ ap (λ (i : ℕ). counting 1 h.k ++ (i ∷ [])) (omega arith) ∙ counting-last 1 h.k;
            today = λ p. omega arith;
            later = λ p. absurd (never (rw at at p));
          }
        where
          never : d < d → ⊥
          never p = omega arith
      go false q =
          rw (append-nil l) (record {
            k = h.k;
            numbers = h.numbers;
            today = λ p. clash _ (ap (is_day d) p ∙ eq-eqb d d refl) q;
            later = h.later;
          })
  on-turn date last anew took day after n (opens a t b x y) h =
      rw (same-empty (is_day d day) took t, append-nil l) (record {
        k = h.k;
        numbers = h.numbers;
        today = λ p. absurd (none-at after d x p);
        later = λ p. h.later (rw b tt);
      })
    where
      none-at : (z : TradeDate) (d : ℕ) → z ≡ None → z ≡ Some d → ⊥
      none-at z d p q = let i : ◌≡◌ {A = ℕ} 0 1 = cc in omega arith
  on-turn date last anew took day after n (begins i a t x b y) h =
      rw (same-empty (is_day d day) took t, append-nil l) (record {
        k = h.k;
        numbers = h.numbers;
        today = λ p.
            let z : i ≡ d = at_same after i d x p in
            y ∙ sym (none-counted h.k (sym h.numbers ∙ h.later (rw z at b)));
        later = λ p. h.later (above-along d i date (rw x at p) b);
      })

-- ─── All of an end ───

abbrev Right : Receiver → List (Dated ℕ) → Type 0
Right e l = (s d : ℕ) → OnDay d (day_of e s) (last_of e s) (of s d l)

right-as : (e e' : Receiver) (l : List (Dated ℕ)) → AsAt e' e → Right e l → Right e' l
right-as e e' l m h s d = rw ((m s).0, (m s).1) (h s d)

record Good (e : Receiver) (m : Memory (List (Dated ℕ))) : Type 0 where
  older : Older e m
  right : Right m.end m.what

good-on : (e e' : Receiver) → ((s : ℕ) → is_open e s ≡ true → is_open e' s ≡ true) → (m : Memory (List (Dated ℕ)))
    → Good e m → Good e' m
good-on e e' f m h = record { older = older-on e m h.older e' f; right = h.right }

record Held (w : Numbering) : Type 0 where
  eight : Eight w.now.end
  right : Right w.now.end w.taken
  links : Linked (Good w.now.end) w.checkpoints w.memories

-- Each call is a step of the end.
call-turn : (v : Lent) (c : Call) → (o : TradeDate) × (b : Bool) × Turned o b v.end (behind v c).end
call-turn v (opening ss) = (None, false, turned (open_turn None false v.end ss))
call-turn v connect = (None, true, turned (connects refl))
call-turn v (ask t content out) = (None, false, turned (request-turn None false v.end t content out))
call-turn v (answer t p) = (
  (dated_of p).date,
  false,
  turned (confirm-turn (dated_of p).date false v.end t p (upto-same (dated_of p).date)),
)
call-turn v (receive p) = (None, false, turned (receive-turn None false v.end p v.buffer))
call-turn v (lend buffer) = (None, false, turned stays)

module _ (w : Numbering) (h : Held w) where
  called : (c : Call) → Held (numbering_step w (call c))
  called c =
      let t = call-turn w.now c in
      let e = (behind w.now c).end in
      record {
        eight = turn-eight t.0 t.1 w.now.end h.eight e _ _ t.2.turn;
        right = λ s d.
            rw (of-append s d w.taken (taken_by w.now c), takes-is s d w.now c)
            (on-turn d (of s d w.taken) _ _ _ _ _ _ _ (call-does s w.now c) (h.right s d));
        links = linked_on _ _ w.checkpoints w.memories
            (good-on w.now.end e (turn-open t.0 t.1 w.now.end h.eight e _ _ t.2.turn))
            h.links;
      }

  kept : (name : List ℕ) (r : Left Checkpoints Saved) → Keeps-as w.checkpoints w.now.end name r
      → Held (after_save w name r)
  kept name r (Keeps-as.refuses x) = record { eight = h.eight; right = h.right; links = h.links }
  kept name r (keeps a room) =
      record {
        eight = h.eight;
        right = h.right;
        links = linked-keep _ w.checkpoints w.memories h.links (memory_now name w) a room _ (λ m n x. x)
            (record { older = record { opens = λ s o. o }; right = h.right });
      }

  brought : (name : List ℕ) (r : Left Receiver Restored) → Restores-as w.checkpoints w.now.end name r
      → Held (after_back w name r)
  brought name r (Restores-as.refuses x) = record { eight = h.eight; right = h.right; links = h.links }
  brought name r (restores a u) =
      let t = h.links.each name a u in
      let e = restored w.now.end (checkpoint_of w.checkpoints name) in
      record {
        eight = restored-eight w.now.end _ h.eight;
        right = rw (t.found (memory_now name w), t.is)
            (right-as t.memory.end (restored w.now.end t.memory.end.kept) t.memory.what
            (back_as w.now.end t.memory t.holds.older) t.holds.right);
        links = linked_on _ _ w.checkpoints w.memories
            (good-on w.now.end e λ s o. restored-open w.now.end _ s ∙ o) h.links;
      }

  held-step : (c : RewindCall) → Held (numbering_step w c)
  held-step (call c) = called c
  held-step (keep name) = kept name _ (keep-as w.checkpoints w.now.end name)
  held-step (restore name) = brought name _ (restore-as w.checkpoints w.now.end name)

held-run : (w : Numbering) → Held w → (cs : List RewindCall) → Held (numbering_run w cs)
held-run w h [] = h
held-run w h (c ∷ cs) = held-run (numbering_step w c) (held-step w h c) cs

held_start : (buffer : List ℕ) → Held (numbering_start buffer)
held_start buffer =
    record {
      eight = fresh-eight;
      right = λ s d. rw (fresh-closed s)
          (record { k = 0; numbers = refl; today = λ q. absurd (none-at d q); later = λ q. refl });
      links = linked-fresh _ fresh-four;
    }
  where
    none-at : (d : ℕ) → None ≡ Some d → ⊥
    none-at d q = let i : ◌≡◌ {A = ℕ} 0 1 = cc in omega arith

counts : (s d : ℕ) (buffer : List ℕ) (cs : List RewindCall)
    → CountsFromOne s d (numbering_run (numbering_start buffer) cs)
counts s d buffer cs =
    let h = (held-run (numbering_start buffer) (held_start buffer) cs).right s d in
    record { k = h.k; numbers = h.numbers; kept = h.today }

-- ─── Without keeping and return ───

plain-run : (s d : ℕ) (w : Numbering) (cs : List Call)
    → of s d (numbering_run w (map call cs)).taken ≡ of s d w.taken ++ takes_on s d w.now cs
plain-run s d w [] = sym (append-nil (of s d w.taken))
plain-run s d w (c ∷ cs) =
    let o = cond (is_day d (day_for s w.now c)) (took_of s w.now c) none in
    plain-run s d (numbering_step w (call c)) cs
    ∙ ap (λ (l : List ℕ). l ++ takes_on s d (behind w.now c) cs)
    (of-append s d w.taken (taken_by w.now c)
    ∙ ap (λ (l : List ℕ). of s d w.taken ++ l) (takes-is s d w.now c))
    ∙ append_assoc (of s d w.taken) (also o []) (takes_on s d (behind w.now c) cs)
    ∙ ap (λ (l : List ℕ). of s d w.taken ++ l) (also-front o (takes_on s d (behind w.now c) cs))
  where
    also-front : (o : Option ℕ) (l : List ℕ) → also o [] ++ l ≡ also o l
    also-front none l = refl
    also-front (some n) l = refl

-- ─── As a numbered receiver ───

wants : (s : ℕ) (v u b : Lent) → ComesBack v u b → last_of b.end s + 1 ≡ last_of v.end s + 1
wants s v u b c =
    let q = (restored-as u.end v.end.kept (λ t o. c.older t (sym (resting-open v.end t) ∙ o)) s).1 in
    let r = (resting-same v.end s).1 in
    ap (λ (e : Receiver). last_of e s + 1) c.end ∙ ap (λ (n : ℕ). n + 1) (q ∙ r)

pub rewind-numbers : RewindNumbers
rewind-numbers = record { follows = λ s. returns (of_series s) (law s) ComesBack (wants s); counts = counts; plain = λ s d buffer cs. plain-run s d (numbering_start buffer) cs }
