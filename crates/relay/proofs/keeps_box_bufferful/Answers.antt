use Rattle.relay.proofs.Bufferful.{box-bufferful}
use Rattle.relay.proofs.keeps_box_bufferful.Goals as goal

pub returns : goal.returns
returns c = box-bufferful
