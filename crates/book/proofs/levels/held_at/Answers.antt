use native.Mathlib.Omega.{arith}
use mathlib.Core.Path.{◌≡◌}
use borrow.Author.Rules.{rules}
use lib.ListN.{length}
use Rattle.book.proofs.levels.Shifts.{places}
use Rattle.book.proofs.levels.Search.{held_same, held-other, held-behind}
use Rattle.book.proofs.levels.held_at.Goals as goal
use Rattle.book.proofs.levels.held_at.Goals.{else-i-lt64-via-then-i-lt64+else-side-i, else-i-lt64-via-else-i-lt64}

pub returns-then-side-i : goal.returns-then-side-i
returns-then-side-i c = search (rules, held_same)

pub returns-else-i-lt64 : goal.returns-else-i-lt64
returns-else-i-lt64 c =
    elim c.else-i-lt64.branch [
      | else-i-lt64-via-then-i-lt64+else-side-i w ↦ search (rules, held-other)
      | else-i-lt64-via-else-i-lt64 w ↦
          let h : length c.args.side.levels ≡ 64 = places c.args.side _ c.well_formed.0 in
          held-behind c.args.side.levels c.args.i _ (omega (arith, h, w.if-i-lt64.false))
    ]
