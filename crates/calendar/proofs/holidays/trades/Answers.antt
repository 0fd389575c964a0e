use borrow.Author.Rules.{rules}
use borrow.Author.Tests.{tests}
use Rattle.calendar.specs.Calendar.{is_trading}
use Rattle.calendar.proofs.holidays.trades.Goals as goal

pub returns-then-day-lt5 : goal.returns-then-day-lt5
unfolding is_trading
returns-then-day-lt5 c = search (rules, tests)

pub returns-else-day-lt5 : goal.returns-else-day-lt5
unfolding is_trading
returns-else-day-lt5 c = search (rules, tests)
