-- A name's letters, by std's test; and its number, of its bytes. Assumes nothing.
use Prim.Native.Nat.{ℕ, ◌≤◌}
use native.Mathlib.Omega.{arith}
use mathlib.Core.Path.{◌≡◌, refl, sym, ◌∙◌}
use mathlib.Core.List.{List, [], ◌∷◌, ◌++◌}
use mathlib.Core.Bool.{Bool, false, not, ◌||◌}
use borrow.Author.Tests.{ltb-false}
use lib.ListN.{length, drop, replicate}
use lib.Dec.{eqb, ltb}
use mir.Syntax.{w64}
use Rattle.std.specs.List.{list_all}
use Rattle.std.specs.Char.{is_ascii_uppercase}
use Rattle.std.specs.Int.{from_le_bytes}
use Rattle.flow.specs.Checkpoints.{most_letters, all_letters, wrong_name, name_code}
use Rattle.flow.proofs.common.Bools.{or-neither}

-- ─── Row 31 ───

module _ (l : List ℕ) where
  -- Where it is not given there are at most 8 letters.
  pub right-few : (wrong : Bool) → wrong ≡ wrong_name l → wrong ≡ false → length l ≤ 8
  unfolding wrong_name
  right-few wrong w e =
      let a = or-neither (eqb (length l) 0 || ltb most_letters (length l)) (not (all_letters l)) (sym w ∙ e) in
      ltb-false 8 (length l) (or-neither (eqb (length l) 0) (ltb most_letters (length l)) a.0).1

-- Its letters by std's test.
pub letters-all : (l : List ℕ) → list_all is_ascii_uppercase l ≡ all_letters l
letters-all [] = refl
letters-all (x ∷ l) = rw (letters-all l)

-- ─── The number of a name ───

-- Eight bytes, of which the first ones are the letters and the others 0, read with the lowest first.
pub code-bytes : (l : List ℕ) → length l ≤ 8 → from_le_bytes w64 (l ++ drop (length l) (replicate 8 0)) ≡ name_code l
code-bytes [] few = omega arith
code-bytes (a ∷ []) few = omega arith
code-bytes (a ∷ b ∷ []) few = omega arith
code-bytes (a ∷ b ∷ c ∷ []) few = omega arith
code-bytes (a ∷ b ∷ c ∷ d ∷ []) few = omega arith
code-bytes (a ∷ b ∷ c ∷ d ∷ e ∷ []) few = omega arith
code-bytes (a ∷ b ∷ c ∷ d ∷ e ∷ f ∷ []) few = omega arith
code-bytes (a ∷ b ∷ c ∷ d ∷ e ∷ f ∷ g ∷ []) few = omega arith
code-bytes (a ∷ b ∷ c ∷ d ∷ e ∷ f ∷ g ∷ h ∷ []) few = omega arith
code-bytes (a ∷ b ∷ c ∷ d ∷ e ∷ f ∷ g ∷ h ∷ i ∷ l) few = absurd (omega arith)
