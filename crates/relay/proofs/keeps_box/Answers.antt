use Rattle.relay.proofs.Agreement.{box-agreement}
use Rattle.relay.proofs.keeps_box.Goals as goal

pub returns : goal.returns
returns c = box-agreement
