use borrow.Author.Rules.{rules}
use Rattle.play.proofs.trading.Shown.{time-is}
use Rattle.play.proofs.trading.ask_time.Goals as goal

pub returns : goal.returns
returns c = (search rules, search (rules, time-is), search rules)
