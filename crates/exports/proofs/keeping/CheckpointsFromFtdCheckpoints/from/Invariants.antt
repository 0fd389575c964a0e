use mathlib.Core.List.{map}
use Rattle.flow.proofs.common.Filled.{Filled}
use Rattle.exports.specs.Keeping.{checkpoint_for}
use Rattle.exports.proofs.keeping.CheckpointsFromFtdCheckpoints.from.Given as goal

abbrev pub invariant-loop-i : goal.invariant-loop-i
invariant-loop-i l = Filled 4 l.i (map checkpoint_for l.c.places) l.all
