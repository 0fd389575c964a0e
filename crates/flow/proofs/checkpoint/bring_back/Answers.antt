use mathlib.Core.Path.{refl}
use borrow.Author.Rules.{rules}
use Rattle.flow.specs.Checkpoints.{brought_back, restored}
use Rattle.flow.proofs.common.Filled.{mapped-turn, mapped_end}
use Rattle.flow.proofs.receiver.Lookups.{eight}
use Rattle.flow.proofs.checkpoint.bring_back.Goals as goal

pub loop-i-init : goal.loop-i-init
loop-i-init c = (refl, refl)

pub loop-i-preserved : goal.loop-i-preserved
loop-i-preserved c =
    let n = (eight c.args.end _ c.well_formed.0).kept in
    rw (c.brought_back.ensures, c.no_line.ensures)
    (mapped-turn 8 (brought_back c.args.kept) c.args.end.kept.series n c.loop-i.all c.loop-i.i _ c.loop-i.invariant (search rules))

pub returns : goal.returns
unfolding restored
returns c =
    let n = (eight c.args.end _ c.well_formed.0).kept in
    let e = mapped_end 8 (brought_back c.args.kept) c.args.end.kept.series n c.loop-i.all c.loop-i.i c.loop-i.invariant (search rules) in
    rw (c.no_line.ensures, e)
