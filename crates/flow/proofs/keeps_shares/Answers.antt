use Rattle.flow.proofs.Shares.{shares}
use Rattle.flow.proofs.keeps_shares.Goals as goal

pub returns : goal.returns
returns c = shares
