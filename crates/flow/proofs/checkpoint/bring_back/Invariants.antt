use mathlib.Core.List.{map}
use Rattle.flow.specs.Checkpoints.{brought_back}
use Rattle.flow.proofs.common.Filled.{Filled}
use Rattle.flow.proofs.checkpoint.bring_back.Given as goal

abbrev pub invariant-loop-i : goal.invariant-loop-i
invariant-loop-i l = Filled 8 l.i (map (brought_back l.from.kept) l.end.kept.series) l.all
