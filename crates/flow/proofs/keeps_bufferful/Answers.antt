use Rattle.flow.proofs.Bufferful.{bufferful}
use Rattle.flow.proofs.keeps_bufferful.Goals as goal

pub returns : goal.returns
returns c = bufferful
