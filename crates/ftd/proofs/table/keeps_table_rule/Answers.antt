use Rattle.ftd.proofs.table.Rule.{table-rule}
use Rattle.ftd.proofs.table.keeps_table_rule.Goals as goal

pub returns : goal.returns
returns c = table-rule
