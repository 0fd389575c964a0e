-- The rule of Appendix E's table, computed once over the whole table. Assumes nothing.
use Prim.Native.Nat.{ℕ, zero, suc, ◌<◌}
use mathlib.Core.Path.{◌≡◌, refl}
use mathlib.Core.List.{List, [], ◌∷◌}
use mathlib.Core.Bool.{Bool, true, false, not, ◌&&◌}
use native.Mathlib.Omega.{arith}
use borrow.Author.Tests.{not-true}
use lib.ListN.{length, get_or}
use Rattle.ftd.specs.Table.{table, rows_of}
use Rattle.ftd.specs.Mode.{listed_tids}
use Rattle.ftd.specs.Composition.{CompositionLine, appendix_e}
use Rattle.ftd.specs.Composition.Rule.{again, line_right, CompositionRule}
use Rattle.ftd.specs.Composition.Helpers.{none_again, table_right}
use Rattle.ftd.proofs.composition.Lines.{no_line, lines, line-is}

right : table_right appendix_e ≡ true
unfolding appendix_e listed_tids table rows_of
right = refl

both : (a b : Bool) → (a && b) ≡ true → (a ≡ true) × (b ≡ true)
both true b e = (refl, e)
both false b e = let y : ◌≡◌ {A = ℕ} 0 1 = cc in absurd (omega arith)

each_of : (ls : List CompositionLine) (i : ℕ) → table_right ls ≡ true → i < length ls
    → line_right (get_or ls i no_line) ≡ true
each_of [] i t h = absurd (omega arith)
each_of (r ∷ rs) zero t h = (both (line_right r) (none_again r rs && table_right rs) t).0
each_of (r ∷ rs) (suc i) t h =
    each_of rs i (both (none_again r rs) (table_right rs) (both (line_right r) (none_again r rs && table_right rs) t).1).1
    (omega arith)

none_of : (r : CompositionLine) (ls : List CompositionLine) (j : ℕ) → none_again r ls ≡ true → j < length ls
    → again r (get_or ls j no_line) ≡ false
none_of r [] j t h = absurd (omega arith)
none_of r (s ∷ ss) zero t h = not-true (again r s) (both (not (again r s)) (none_again r ss) t).0
none_of r (s ∷ ss) (suc j) t h = none_of r ss j (both (not (again r s)) (none_again r ss) t).1 (omega arith)

once-of : (ls : List CompositionLine) (i j : ℕ) → table_right ls ≡ true → i < j → j < length ls
    → again (get_or ls i no_line) (get_or ls j no_line) ≡ false
once-of [] i j t h k = absurd (omega arith)
once-of (r ∷ rs) i zero t h k = absurd (omega arith)
once-of (r ∷ rs) zero (suc j) t h k =
    none_of r rs j
    (both (none_again r rs) (table_right rs) (both (line_right r) (none_again r rs && table_right rs) t).1).0 (omega arith)
once-of (r ∷ rs) (suc i) (suc j) t h k =
    once-of rs i j
    (both (none_again r rs) (table_right rs) (both (line_right r) (none_again r rs && table_right rs) t).1).1 (omega arith)
    (omega arith)

pub composition-rule : CompositionRule
composition-rule =
    record {
      each = λ i h. rw (← (line-is i)) (each_of appendix_e i right (rw lines h));
      once = λ i j h k. rw (← (line-is i), ← (line-is j)) (once-of appendix_e i j right h (rw lines k));
    }
