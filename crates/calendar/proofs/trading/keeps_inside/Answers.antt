use Rattle.calendar.proofs.trading.Times.{inside-laws}
use Rattle.calendar.proofs.trading.keeps_inside.Goals as goal

pub returns : goal.returns
returns c = inside-laws
