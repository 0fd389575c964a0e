use Rattle.ftd.proofs.table.Rule.{rows_end}
use Rattle.ftd.proofs.table.end_of.Goals as goal

pub returns : goal.returns
returns c = rows_end c.args.fid _ _ c.start_of.ensures.0 c.count_of.ensures.0
