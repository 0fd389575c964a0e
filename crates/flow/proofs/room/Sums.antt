-- A sum held against what is left, taken off step by step; and 11 of the reserves. Assumes nothing.
use Prim.Native.Nat.{ℕ, zero, suc, ◌+◌, ◌-◌, ◌<◌, ◌≤◌}
use native.Mathlib.Omega.{arith}
use mathlib.Core.Path.{◌≡◌, refl, sym, ◌∙◌}
use mathlib.Core.List.{List, [], ◌∷◌}
use mathlib.Core.Bool.{Bool, true, false, not}
use borrow.Author.Tests.{lt-ltb, le-ltb, ltb-true, ltb-false, eq-eqb, ne_eqb, eqb-true, not-false}
use lib.ListN.{length, get_or, drop, drop_of_length-le}
use lib.Seq.{drop-cons}
use lib.Dec.{ltb, eqb}
use Rattle.flow.specs.Ends.{sum_of}
use Rattle.flow.specs.Serving.{wrong_reserves}
use Rattle.flow.proofs.common.Bools.{or-neither}

-- One of the list is at most the sum.
pub one-of-sum : (l : List ℕ) (i : ℕ) → get_or l i 0 ≤ sum_of l
one-of-sum [] i = omega arith
one-of-sum (x ∷ l) zero = omega arith
one-of-sum (x ∷ l) (suc i) =
    let h = one-of-sum l i in
    omega arith

-- Taken off on both sides, a number leaves the order.
taken-off : (left n rest : ℕ) → n ≤ left → ltb left (n + rest) ≡ ltb (left - n) rest
taken-off left n rest h = go (ltb (left - n) rest) refl
  where
    go : (b : Bool) → ltb (left - n) rest ≡ b → ltb left (n + rest) ≡ b
    go true q =
        let p = ltb-true (left - n) rest q in
        lt-ltb left (n + rest) (omega arith)
    go false q =
        let p = ltb-false (left - n) rest q in
        le-ltb left (n + rest) (omega arith)

-- `whole` is whether the whole list's sum is above the room, and so far whether the rest's is above what is left.
module _ (l : List ℕ) (i left : ℕ) (whole : Bool) (w : ltb left (sum_of (drop i l)) ≡ whole) where
  from-here : i < length l → drop i l ≡ get_or l i 0 ∷ drop (i + 1) l
  from-here h =
      let e : i + 1 ≡ suc i = omega arith in
      rw e (drop-cons l i 0 h)

  pub sum_over : i < length l → left < get_or l i 0 → true ≡ whole
  sum_over h o =
      let a : ltb left (get_or l i 0 + sum_of (drop (i + 1) l)) ≡ true =
      lt-ltb left (get_or l i 0 + sum_of (drop (i + 1) l)) (omega arith) in
      sym a ∙ (rw (from-here h) at w)

  pub sum-turn : i < length l → get_or l i 0 ≤ left → ltb (left - get_or l i 0) (sum_of (drop (i + 1) l)) ≡ whole
  sum-turn h o = sym (taken-off left (get_or l i 0) (sum_of (drop (i + 1) l)) o) ∙ (rw (from-here h) at w)

  pub sum-end : length l ≤ i → false ≡ whole
  sum-end h =
      let a : ltb left 0 ≡ false = le-ltb left 0 (omega arith) in
      sym a ∙ (rw (drop_of_length-le l h) at w)

-- ─── The reserves of an opening ───

module _ (ss rs log : List ℕ) where
  pub reserves-count : (length rs ≡ length ss → ⊥) → true ≡ wrong_reserves ss rs log
  reserves-count n = rw (ne_eqb (length rs) (length ss) n)

  pub reserves-else : length rs ≡ length ss → ltb (length log) (sum_of (drop 0 rs)) ≡ wrong_reserves ss rs log
  reserves-else e = rw (eq-eqb (length rs) (length ss) e)

  -- Where they are right there are as many as series.
  pub reserves-many : (wrong : Bool) → wrong ≡ wrong_reserves ss rs log → wrong ≡ false → length rs ≡ length ss
  reserves-many wrong w right =
      let a = or-neither (not (eqb (length rs) (length ss))) (ltb (length log) (sum_of rs)) (sym w ∙ right) in
      eqb-true (length rs) (length ss) (not-false _ a.0)
