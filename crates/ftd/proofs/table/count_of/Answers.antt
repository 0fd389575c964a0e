use mathlib.Core.Path.{◌∙◌}
use borrow.Author.Rules.{rules}
use Rattle.ftd.specs.Table.Rule.{places}
use Rattle.ftd.proofs.table.Rule.{count-col, counts}
use Rattle.ftd.proofs.table.count_of.Goals as goal

pub returns : goal.returns
unfolding counts places
returns c = (c.size8.ensures.0 ∙ count-col c.args.fid, search rules)
