use Rattle.ftd.specs.Table.{table}
use Rattle.ftd.proofs.table.Rule.{kind-col, kind_column}
use Rattle.ftd.proofs.table.kind_at.Goals as goal

pub returns : goal.returns
unfolding kind_column table
returns c = kind-col c.args.row
