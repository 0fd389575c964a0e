use Rattle.relay.proofs.Refusals.{refusals-leave}
use Rattle.relay.proofs.keeps_box_refusals.Goals as goal

pub returns : goal.returns
returns c = refusals-leave
