use Rattle.flow.proofs.Refusals.{refusals-leave}
use Rattle.flow.proofs.keeps_refusals.Goals as goal

pub returns : goal.returns
returns c = refusals-leave
