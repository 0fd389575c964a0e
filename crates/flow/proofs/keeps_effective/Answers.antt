use Rattle.flow.proofs.rewind.Effective.{effective-histories}
use Rattle.flow.proofs.keeps_effective.Goals as goal

pub returns : goal.returns
returns c = effective-histories
