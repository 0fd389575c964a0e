use mathlib.Core.List.{map}
use Rattle.flow.proofs.common.Filled.{Filled}
use Rattle.exports.specs.Keeping.{kept_series_numbers}
use Rattle.exports.proofs.keeping.FtdCheckpointFromCheckpoint.from.Given as goal

abbrev pub invariant-loop-i : goal.invariant-loop-i
invariant-loop-i l = Filled 8 l.i (map kept_series_numbers l.x.kept.series) l.all
