use Rattle.relay.proofs.RowAgreement.{row-agreement}
use Rattle.relay.proofs.keeps_row.Goals as goal

pub returns : goal.returns
returns c = row-agreement
