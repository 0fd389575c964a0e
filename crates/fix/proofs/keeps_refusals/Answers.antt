use Rattle.fix.proofs.Refusals.{refusals-leave}
use Rattle.fix.proofs.keeps_refusals.Goals as goal

pub returns : goal.returns
returns c = refusals-leave
