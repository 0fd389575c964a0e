use mathlib.Core.Path.{◌∙◌}
use borrow.Author.Rules.{rules}
use Rattle.ftd.specs.Table.Rule.{places}
use Rattle.ftd.proofs.table.Rule.{start-col, starts}
use Rattle.ftd.proofs.table.start_of.Goals as goal

pub returns : goal.returns
unfolding starts places
returns c = (c.size16.ensures.0 ∙ start-col c.args.fid, search rules)
