use Rattle.ftd.proofs.Refusals.{refusals-leave}
use Rattle.ftd.proofs.keeps_refusals.Goals as goal

pub returns : goal.returns
returns c = refusals-leave
