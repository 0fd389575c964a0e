-- The opening's rule (row 11), read from the first place on. Assumes nothing.
use Prim.Native.Nat.{ℕ, suc, ◌+◌, ◌-◌, ◌<◌, ◌≤◌}
use native.Mathlib.Omega.{arith}
use mathlib.Core.Path.{◌≡◌, refl, sym, ap, ◌∙◌}
use mathlib.Core.List.{List, [], ◌∷◌}
use mathlib.Core.Bool.{Bool, true, false, not, ◌||◌}
use borrow.Author.Tests.{ltb-false}
use lib.ListN.{length, length-drop, get_or, take, drop}
use lib.Seq.{drop-cons}
use lib.Dec.{eqb, ltb}
use Rattle.std.specs.Prelude.{nat_eq}
use Rattle.std.specs.List.{list_any}
use Rattle.std.proofs.lemmas.List.{take_all}
use Rattle.flow.specs.Ends.{member, differing, wrong_series}
use Rattle.flow.proofs.common.Bools.{or-neither}

-- The list's word for what a slice contains.
pub member-any : (s : ℕ) (l : List ℕ) → list_any (λ y. nat_eq y s) l ≡ member s l
member-any s [] = refl
member-any s (x ∷ l) = rw (member-any s l)

-- A series twice, read from the first place on: in the rest of the list from the place i on as in the whole.
module _ (l : List ℕ) (i : ℕ) (w : differing (drop i l) ≡ differing l) where
  -- What is left from the place i on.
  from-here : i < length l → drop i l ≡ get_or l i 0 ∷ drop (i + 1) l
  from-here h =
      let e : i + 1 ≡ suc i = omega arith in
      rw e (drop-cons l i 0 h)

  -- The slice behind the place i is that rest.
  behind : take (length l - (i + 1)) (drop (i + 1) l) ≡ drop (i + 1) l
  behind = take_all (length l - (i + 1)) (drop (i + 1) l) (simp length-drop (omega arith))

  -- `r` is whether the series at the place i stands behind it again.
  module _ (r : Bool) (h : i < length l)
      (e : r ≡ list_any (λ y. nat_eq y (get_or l i 0)) (take (length l - (i + 1)) (drop (i + 1) l))) where
    again : r ≡ member (get_or l i 0) (drop (i + 1) l)
    again = (rw behind at e) ∙ member-any (get_or l i 0) (drop (i + 1) l)

    pub twice-here : r ≡ true → true ≡ not (differing l)
    twice-here t = ap not (rw (from-here h, ← again, t) at w)

    pub twice-turn : r ≡ false → differing (drop (i + 1) l) ≡ differing l
    twice-turn t = rw (from-here h, ← again, t) at w

-- ─── The rule ───

module _ (l : List ℕ) where
  -- Where it holds there are at most 8 series.
  pub right-few : (wrong : Bool) → wrong ≡ wrong_series l → wrong ≡ false → length l ≤ 8
  unfolding wrong_series
  right-few wrong w right =
      let none = eqb (length l) 0 in
      let many = ltb 8 (length l) in
      let a = or-neither ((none || many) || member 0 l) (not (differing l)) (sym w ∙ right) in
      let b = or-neither (none || many) (member 0 l) a.0 in
      ltb-false 8 (length l) (or-neither none many b.0).1
