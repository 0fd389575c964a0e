use Rattle.relay.proofs.BoxCalls.{box-calls}
use Rattle.relay.proofs.keeps_box_calls.Goals as goal

pub returns : goal.returns
returns c = box-calls
