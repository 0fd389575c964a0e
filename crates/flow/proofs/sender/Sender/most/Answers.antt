use mathlib.Core.Path.{refl}
use Rattle.ftd.specs.Chain.{overhead_of, overhead}
use Rattle.flow.proofs.sender.Sender.most.Goals as goal

pub returns : goal.returns
unfolding overhead_of overhead
returns c = refl
