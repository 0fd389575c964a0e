use Rattle.flow.proofs.RewindAgreement.{rewind-agreement}
use Rattle.flow.proofs.keeps_rewind.Goals as goal

pub returns : goal.returns
returns c = rewind-agreement
