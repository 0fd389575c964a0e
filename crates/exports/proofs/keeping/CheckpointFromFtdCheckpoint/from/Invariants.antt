use mathlib.Core.List.{map}
use Rattle.flow.proofs.common.Filled.{Filled}
use Rattle.exports.specs.Keeping.{kept_series_for}
use Rattle.exports.proofs.keeping.CheckpointFromFtdCheckpoint.from.Given as goal

abbrev pub invariant-loop-i : goal.invariant-loop-i
invariant-loop-i l = Filled 8 l.i (map kept_series_for l.x.series) l.all
