use mathlib.Core.Path.{◌≡◌, refl}
use borrow.Author.Rules.{rules}
use lib.ListN.{length}
use Rattle.flow.proofs.common.Filled.{mapped-turn, mapped_end}
use Rattle.flow.proofs.series.Places.{unmapped}
use Rattle.exports.specs.Keeping.{kept_series_numbers}
use Rattle.exports.proofs.keeping.FtdCheckpointFromCheckpoint.from.Goals as goal

pub loop-i-init : goal.loop-i-init
loop-i-init c = (refl, refl)

pub loop-i-preserved : goal.loop-i-preserved
loop-i-preserved c =
    let n : length c.args.x.kept.series ≡ 8 = search (rules, unmapped) in
    rw c.from.ensures (mapped-turn 8 kept_series_numbers c.args.x.kept.series n c.loop-i.all c.loop-i.i _ c.loop-i.invariant (search rules))

pub returns : goal.returns
returns c =
    let n : length c.args.x.kept.series ≡ 8 = search (rules, unmapped) in
    rw (mapped_end 8 kept_series_numbers c.args.x.kept.series n c.loop-i.all c.loop-i.i c.loop-i.invariant (search rules))
