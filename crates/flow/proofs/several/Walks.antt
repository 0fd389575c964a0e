-- One turn of the walk over several inputs, over plain variables. Assumes nothing.
use Prim.Native.Nat.{ℕ, ◌+◌, ◌-◌, ◌<◌, ◌≤◌}
use mathlib.Core.Path.{◌≡◌, refl, sym, ap, ◌∙◌}
use mathlib.Core.List.{List}
use mathlib.Core.Option.{none, some}
use lib.ListN.{length, take, drop}
use Rattle.ftd.specs.Runs.{front, Run, run_of}
use Rattle.ftd.proofs.runs.Laws.{run-over, run-next, entry-head, entry_length}
use Rattle.flow.specs.Ends.{Wrote}
use Rattle.flow.proofs.log.Heads.{part-size, part_end}
use Rattle.flow.specs.Several.{Repeated, Took, took, stop_or, rest_of, walk_over, several_of}
use Rattle.flow.specs.Promises.{LeavesSeveral}

module _ {E A B : Type 0} (R : Repeated E A B) (some-head : 0 < R.form.head) (s : List ℕ) (at n : ℕ)
    (m : n ≡ front R.form (drop at s)) (e : E) (l : List ℕ) where
  -- Nothing stands there whole.
  pub walk-over : n ≡ 0 → walk_over R e l at (run_of R.form (drop at s)) ≡ took e (rest_of R (drop at s)) l at
  walk-over z = ap (λ (run : Run). walk_over R e l at run) (run-over R.form some-head s at n m z)

  -- An input stands there: the walk stops at it, or goes on behind it.
  pub walk-next : (n ≡ 0 → ⊥) →
      let r = R.call e (take n (drop at s)) l in
      walk_over R e l at (run_of R.form (drop at s))
      ≡ stop_or (R.stops at r.answer) (λ b. took r.end b r.bytes (at + n))
      (walk_over R r.end r.bytes (at + n) (run_of R.form (drop (at + n) s)))
  walk-next z =
      ap (λ (run : Run). walk_over R e l at run) (run-next R.form some-head s at n m z)
      ∙ ap (λ (k : ℕ).
      let r = R.call e (take n (drop at s)) l in
      stop_or (R.stops at r.answer) (λ b. took r.end b r.bytes (at + k))
      (walk_over R r.end r.bytes (at + k) (run_of R.form (drop (at + n) s))))
      (entry_length R.form some-head s at n m)

-- From the start.
pub start-turn : {E A B : Type 0} (R : Repeated E A B) (e : E) (s l : List ℕ)
    → walk_over R e l 0 (run_of R.form s) ≡ several_of R e s l
unfolding several_of
start-turn R e s l = refl

-- The loop's turn: what is left to walk, from a place on with an end and the lent bytes, comes to what is meant.
module _ {E A B : Type 0} (R : Repeated E A B) (some-head : 0 < R.form.head) (s : List ℕ) (at n : ℕ)
    (m : n ≡ front R.form (drop at s)) (e : E) (l : List ℕ) (meant : Took E B)
    (inv : walk_over R e l at (run_of R.form (drop at s)) ≡ meant) where
  -- The input, as it is lent.
  pub input-head : (n ≡ 0 → ⊥) → R.form.head ≤ length (take (at + n - at) (drop at s))
  input-head z =
      rw (part-size at n, entry_length R.form some-head s at n m) (entry-head R.form some-head s at n m z)

  pub input-length : length (take (at + n - at) (drop at s)) ≡ n
  input-length = rw (part-size at n) (entry_length R.form some-head s at n m)

  -- What is left is what is meant: so are its parts.
  gives : (d : E) (b : B) (to : ℕ) (g : List ℕ) → took d b g to ≡ meant → LeavesSeveral R meant s d b to g
  gives d b to g q = (
    ap (λ (t : Took E B). t.end) q,
    ap (λ (t : Took E B). R.told s t.bytes t.answer) q,
    ap (λ (t : Took E B). t.answer) q,
    ap (λ (t : Took E B). t.taken) q,
    ap (λ (t : Took E B). t.bytes) q,
  )

  pub rest-turn : n ≡ 0 → (b : B) → b ≡ rest_of R (take (length s - at) (drop at s)) → LeavesSeveral R meant s e b at l
  rest-turn z b q =
      gives e b at l
      (ap (λ (x : B). took e x l at) (rw (part_end at s) at q) ∙ sym (walk-over R some-head s at n m e l z) ∙ inv)

  module _ (z : n ≡ 0 → ⊥) (r : Wrote E A) (c : r ≡ R.call e (take (at + n - at) (drop at s)) l) where
    next : stop_or (R.stops at r.answer) (λ b. took r.end b r.bytes (at + n))
        (walk_over R r.end r.bytes (at + n) (run_of R.form (drop (at + n) s)))
        ≡ meant
    next = rw (c, part-size at n) (sym (walk-next R some-head s at n m e l z) ∙ inv)

    pub turn-stop : (b : B) → R.stops at r.answer ≡ some b
        → LeavesSeveral R meant s r.end b (at + n) r.bytes
    turn-stop b q = gives r.end b (at + n) r.bytes (rw q at next)

    pub turn_on : R.stops at r.answer ≡ none
        → walk_over R r.end r.bytes (at + n) (run_of R.form (drop (at + n) s)) ≡ meant
    turn_on q = rw q at next
