use borrow.Author.Rules.{rules}
use Rattle.play.proofs.text.Turns.{date-is}
use Rattle.play.proofs.text.date_line.Goals as goal

pub returns : goal.returns
returns c = (search (rules, date-is), search rules)
