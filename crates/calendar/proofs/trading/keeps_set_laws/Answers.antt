use Rattle.calendar.proofs.trading.Taken.{set-laws}
use Rattle.calendar.proofs.trading.keeps_set_laws.Goals as goal

pub returns : goal.returns
returns c = set-laws
