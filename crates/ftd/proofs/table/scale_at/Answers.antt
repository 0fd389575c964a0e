use Rattle.ftd.specs.Table.{table}
use Rattle.ftd.proofs.table.Rule.{scale-col, scale_column}
use Rattle.ftd.proofs.table.scale_at.Goals as goal

pub returns : goal.returns
unfolding scale_column table
returns c = scale-col c.args.row
