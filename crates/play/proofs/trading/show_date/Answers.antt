use borrow.Author.Rules.{rules}
use Rattle.play.proofs.trading.Shown.{day-is}
use Rattle.play.proofs.trading.show_date.Goals as goal

pub returns : goal.returns
returns c = (search rules, search (rules, day-is), search rules)
