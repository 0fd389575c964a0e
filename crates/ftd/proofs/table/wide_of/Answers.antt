use mathlib.Core.Path.{◌∙◌}
use Rattle.ftd.specs.Table.Rule.{places}
use Rattle.ftd.proofs.table.Rule.{wide-col, wides}
use Rattle.ftd.proofs.table.wide_of.Goals as goal

pub returns : goal.returns
unfolding wides places
returns c = c.size16.ensures.0 ∙ wide-col c.args.fid
