use borrow.Author.Rules.{rules}
use Rattle.play.proofs.receiving.Shown.{receiver-is, received_is}
use Rattle.play.proofs.receiving.receive.Goals as goal

pub returns : goal.returns
returns c = ((search (rules, receiver-is), search (rules, received_is), search rules), search rules)
