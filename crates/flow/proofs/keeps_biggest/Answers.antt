use Rattle.flow.proofs.Biggest.{biggest}
use Rattle.flow.proofs.keeps_biggest.Goals as goal

pub returns : goal.returns
returns c = biggest
