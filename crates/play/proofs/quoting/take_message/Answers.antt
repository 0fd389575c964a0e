use borrow.Author.Rules.{rules}
use Rattle.play.proofs.quoting.Shown.{book-is, outcome-is}
use Rattle.play.proofs.quoting.take_message.Goals as goal

pub returns : goal.returns
returns c = (search (rules, book-is), search (rules, outcome-is), search rules)
