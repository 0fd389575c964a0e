use Rattle.ftd.proofs.Opened.{opened}
use Rattle.ftd.proofs.dates.keeps_date_examples.Goals as goal

pub returns : goal.returns
unfolding opened
returns c = tt
