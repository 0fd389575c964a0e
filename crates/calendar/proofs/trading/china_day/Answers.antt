use borrow.Author.Rules.{rules}
use Rattle.calendar.specs.Calendar.{china_day}
use Rattle.calendar.proofs.trading.china_day.Goals as goal

pub returns : goal.returns
unfolding china_day
returns c = search rules
