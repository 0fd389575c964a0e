use Rattle.calendar.proofs.days.Laws.{day-laws}
use Rattle.calendar.proofs.days.keeps_day_laws.Goals as goal

pub returns : goal.returns
returns c = day-laws
