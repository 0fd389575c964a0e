use native.Mathlib.Omega.{arith}
use Rattle.book.proofs.levels.Shifts.{push-in, push-end, places}
use Rattle.book.proofs.levels.insert.Goals as goal

pub returns-then-at-lt64 : goal.returns-then-at-lt64
returns-then-at-lt64 c =
    push-in c.args.side.levels _ c.args.at c.args.new (places c.args.side _ c.well_formed.0) c.if-at-lt64.true c.copy_within.ensures.after

pub returns-else-at-lt64 : goal.returns-else-at-lt64
returns-else-at-lt64 c =
    push-end c.args.side.levels c.args.at c.args.new (places c.args.side _ c.well_formed.0) (omega (arith, c.if-at-lt64.false, c.requires))
