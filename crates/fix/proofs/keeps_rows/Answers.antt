use Rattle.fix.proofs.Rows.{rows}
use Rattle.fix.proofs.keeps_rows.Goals as goal

pub returns : goal.returns
returns c = rows
