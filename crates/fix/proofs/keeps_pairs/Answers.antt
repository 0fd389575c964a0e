use Rattle.fix.proofs.Pairs.{pair-laws}
use Rattle.fix.proofs.keeps_pairs.Goals as goal

pub returns : goal.returns
returns c = pair-laws
