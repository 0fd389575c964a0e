use Rattle.flow.proofs.Untagged.{untagged}
use Rattle.flow.proofs.keeps_untagged.Goals as goal

pub returns : goal.returns
returns c = untagged
