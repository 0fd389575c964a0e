use borrow.Author.Rules.{rules}
use Rattle.play.proofs.receiving.Shown.{receiver-is, confirmed-is}
use Rattle.play.proofs.receiving.answer.Goals as goal

pub returns : goal.returns
returns c = (search (rules, receiver-is), search (rules, confirmed-is), search rules)
