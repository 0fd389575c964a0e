use Rattle.calendar.specs.Calendar.{mark_date}
use Rattle.calendar.proofs.trading.mark_date.Goals as goal

pub returns : goal.returns
unfolding mark_date
returns c = rw (← c.china_day.ensures.0) c.date_number.ensures
