use mathlib.Core.Path.{◌∙◌}
use borrow.Author.Rules.{rules}
use Rattle.ftd.specs.Table.{table}
use Rattle.ftd.proofs.table.Rule.{width-col, width_column}
use Rattle.ftd.proofs.table.width_at.Goals as goal

pub returns : goal.returns
unfolding width_column table
returns c = (c.size16.ensures.0 ∙ width-col c.args.row, search rules)
