use Rattle.calendar.proofs.trading.Laws.{calendar-laws}
use Rattle.calendar.proofs.trading.keeps_calendar_laws.Goals as goal

pub returns : goal.returns
returns c = calendar-laws
