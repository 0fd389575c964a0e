-- The first place that passes, of a slice's `position`, as a series' place in a list. Assumes nothing.
use Prim.Native.Nat.{ℕ, suc, ◌+◌, ◌<◌}
use Prim.Native.Nat.compare
use native.Mathlib.Omega.{arith}
use mathlib.Core.Path.{◌≡◌, refl, sym, ◌∙◌}
use mathlib.Core.List.{List, [], ◌∷◌, map}
use mathlib.Core.Bool.{Bool, true, false, cond, not, ◌||◌}
use borrow.Author.Tests.{lt-ltb}
use lib.ListN.{length, length-map}
use lib.Dec.{eqb, ltb}
use Rattle.std.specs.Prelude.{Option, Some, None}
use Rattle.std.specs.List.{position, position_or_len}
use Rattle.flow.specs.Ends.{member, index_of}
use Rattle.flow.proofs.ends.Lookups.{index-inside}

module _ {A : Type 0} (f : A → ℕ) (s : ℕ) where
  -- An element has the number.
  abbrev pub has : A → Bool
  has x = eqb (f x) s

  index-is : (l : List A) → position_or_len has l ≡ index_of s (map f l)
  index-is [] = refl
  index-is (x ∷ l) = go (has x) (index-is l)
    where
      go : (b : Bool) → position_or_len has l ≡ index_of s (map f l)
          → cond (not b) (1 + position_or_len has l) 0 ≡ cond b 0 (suc (index_of s (map f l)))
      go true h = refl
      go false h = omega (arith, h)

  member-is : (l : List A) → ltb (position_or_len has l) (length l) ≡ member s (map f l)
  member-is [] = refl
  member-is (x ∷ l) = go (has x) (member-is l)
    where
      go : (b : Bool) → ltb (position_or_len has l) (length l) ≡ member s (map f l)
          → ltb (cond (not b) (1 + position_or_len has l) 0) (suc (length l)) ≡ (b || member s (map f l))
      go true h = lt-ltb 0 (suc (length l)) (omega arith)
      go false h =
          let e : 1 + position_or_len has l ≡ suc (position_or_len has l) = omega arith in
          rw (e, compare.suc-suc (suc (position_or_len has l)) (length l)) h

  module _ (l : List A) (r : Option ℕ) (e : r ≡ position has l) where
    both : r ≡ cond (member s (map f l)) (Some (index_of s (map f l))) None
    both = rw (member-is l, index-is l) at e

    -- No element has it.
    pub absent : r ≡ None → member s (map f l) ≡ false
    absent n = go (member s (map f l)) (sym n ∙ both)
      where
        go : (b : Bool) → None ≡ cond b (Some (index_of s (map f l))) None → b ≡ false
        go true q = cc
        go false q = refl

    -- The first that has it.
    pub found : (i : ℕ) → r ≡ Some i
        → (member s (map f l) ≡ true) × (i ≡ index_of s (map f l)) × (i < length l)
    found i n = go (member s (map f l)) refl (sym n ∙ both)
      where
        go : (b : Bool) → member s (map f l) ≡ b → Some i ≡ cond b (Some (index_of s (map f l))) None
            → (b ≡ true) × (i ≡ index_of s (map f l)) × (i < length l)
        go true m q =
            let i-is : i ≡ index_of s (map f l) = cc in
            let a = index-inside s (map f l) m in
            (refl, i-is, omega (arith, length-map l f))
        go false m q = absurd cc
