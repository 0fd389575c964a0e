-- What an array's `map` answers, as a list, and an array of 8 filled one by one with what two lists have at each place.
-- Assumes nothing.
use Prim.Native.Nat.{ℕ, zero, suc, ◌+◌, ◌<◌, ◌≤◌}
use native.Mathlib.Omega.{arith}
use mathlib.Core.Path.{◌≡◌, refl, sym, ap, ◌∙◌}
use mathlib.Core.List.{List, [], ◌∷◌, map}
use lib.ListN.{length, get_or, set}
use Rattle.flow.proofs.common.Filled.{Filled, turn, filled-end}
use Rattle.exports.specs.Numbers.{paired}

-- At each place f of what the other list has there.
module _ {A B : Type 0} (f : A → B) where
  pub mapped : (l : List A) (r : List B) → length l ≡ length r
      → ((i : ℕ) (d : A) (e : B) → i < length l → get_or r i e ≡ f (get_or l i d)) → r ≡ map f l
  mapped [] [] q h = refl
  mapped [] (y ∷ r) q h = absurd (omega arith)
  mapped (x ∷ l) [] q h = absurd (omega arith)
  mapped (x ∷ l) (y ∷ r) q h =
      rw (h 0 x y (omega arith), mapped l r (omega arith) (λ i d e g. h (suc i) d e (omega arith))) refl

module _ {A B C : Type 0} (f : A → B → C) where
  length-paired : (l : List A) (m : List B) → length l ≡ length m → length (paired f l m) ≡ length l
  length-paired [] m e = refl
  length-paired (x ∷ l) [] e = absurd (omega arith)
  length-paired (x ∷ l) (y ∷ m) e = ap suc (length-paired l m (omega arith))

  get_d-paired : (l : List A) (m : List B) (i : ℕ) (d : A) (b : B) → i < length l → i < length m
      → get_or (paired f l m) i (f d b) ≡ f (get_or l i d) (get_or m i b)
  get_d-paired [] m i d b inside in-other = absurd (omega arith)
  get_d-paired (x ∷ l) [] i d b inside in-other = absurd (omega arith)
  get_d-paired (x ∷ l) (y ∷ m) zero d b inside in-other = refl
  get_d-paired (x ∷ l) (y ∷ m) (suc i) d b inside in-other = get_d-paired l m i d b (omega arith) (omega arith)

  module _ (l : List A) (m : List B) (eight : length l ≡ 8) (eight-other : length m ≡ 8) where
    pub all-eight : length (paired f l m) ≡ 8
    all-eight = length-paired l m (eight ∙ sym eight-other) ∙ eight

    pub paired-turn : (all : List C) (i : ℕ) (d : A) (b : B) → Filled 8 i (paired f l m) all → i < 8
        → Filled 8 (i + 1) (paired f l m) (set all i (f (get_or l i d) (get_or m i b)))
    paired-turn all i d b h few =
        rw (get_d-paired l m i d b (omega arith) (omega arith)) at (turn 8 (paired f l m) all i (f d b) h few all-eight)

    pub paired-end : (all : List C) (i : ℕ) → Filled 8 i (paired f l m) all → 8 ≤ i → all ≡ paired f l m
    paired-end all i h whole = filled-end 8 (paired f l m) all i h whole all-eight
