use Rattle.book.proofs.levels.Shifts.{pull-out, places}
use Rattle.book.proofs.levels.remove.Goals as goal

pub returns : goal.returns
returns c = pull-out c.args.side.levels _ c.args.at (places c.args.side _ c.well_formed.0) c.requires c.copy_within.ensures.after
