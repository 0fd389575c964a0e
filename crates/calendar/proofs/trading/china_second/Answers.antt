use borrow.Author.Rules.{rules}
use Rattle.calendar.specs.Calendar.{china_second}
use Rattle.calendar.proofs.trading.china_second.Goals as goal

pub returns : goal.returns
unfolding china_second
returns c = search rules
