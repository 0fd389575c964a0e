use Rattle.fix.proofs.Judgement.{judgement}
use Rattle.fix.proofs.keeps_judgement.Goals as goal

pub returns : goal.returns
returns c = judgement
