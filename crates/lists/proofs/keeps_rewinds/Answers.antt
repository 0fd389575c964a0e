use Rattle.lists.proofs.Rewinds.{rewinds}
use Rattle.lists.proofs.keeps_rewinds.Goals as goal

pub returns : goal.returns
returns c = rewinds
