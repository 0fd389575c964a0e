use Rattle.flow.proofs.Agreement.{agreement}
use Rattle.flow.proofs.keeps_agreement.Goals as goal

pub returns : goal.returns
returns c = agreement
