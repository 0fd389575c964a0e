use borrow.Author.Rules.{rules}
use Rattle.play.proofs.trading.Shown.{calendar-is, set_is}
use Rattle.play.proofs.trading.set_calendar.Goals as goal

pub returns : goal.returns
returns c = (search (rules, calendar-is), search (rules, set_is), search rules)
