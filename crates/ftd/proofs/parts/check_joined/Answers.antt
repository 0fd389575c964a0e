use lib.ListN.{length-append}
use Rattle.ftd.proofs.parts.Across.{copied, copied-length}
use Rattle.ftd.proofs.parts.check_joined.Goals as goal

pub slice_bounds-check_three-end : goal.slice_bounds-check_three-end
slice_bounds-check_three-end c =
    copied-length _ _ _ c.args.start.now c.args.more.now c.copy_at.ensures c.copy_at-2.ensures

pub check_three-requires : goal.check_three-requires
check_three-requires c =
    rw (copied _ _ _ c.args.start.now c.args.more.now c.copy_at.ensures c.copy_at-2.ensures)
    (c.requires.0, c.requires.1, rw length-append c.requires.3)

pub returns : goal.returns
returns c =
    rw (copied _ _ _ c.args.start.now c.args.more.now c.copy_at.ensures c.copy_at-2.ensures)
    at c.check_three.ensures
