use mathlib.Core.Path.{◌≡◌, refl}
use borrow.Author.Rules.{rules}
use lib.ListN.{length}
use Rattle.flow.proofs.common.Filled.{mapped-turn, mapped_end}
use Rattle.flow.proofs.series.Places.{unmapped}
use Rattle.exports.specs.Keeping.{checkpoint_for, checkpoints_for}
use Rattle.exports.proofs.keeping.CheckpointsFromFtdCheckpoints.from.Goals as goal

pub loop-i-init : goal.loop-i-init
loop-i-init c = (refl, refl)

pub loop-i-preserved : goal.loop-i-preserved
loop-i-preserved c =
    let n : length c.args.c.places ≡ 4 = search (rules, unmapped) in
    rw c.from.ensures (mapped-turn 4 checkpoint_for c.args.c.places n c.loop-i.all c.loop-i.i _ c.loop-i.invariant (search rules))

pub returns : goal.returns
unfolding checkpoints_for
returns c =
    let n : length c.args.c.places ≡ 4 = search (rules, unmapped) in
    rw (mapped_end 4 checkpoint_for c.args.c.places n c.loop-i.all c.loop-i.i c.loop-i.invariant (search rules))
