use borrow.Author.Rules.{rules}
use Rattle.flow.proofs.receive.Back.{drop-unknown, drop-found}
use Rattle.flow.proofs.receiver.Receiver.drop_chain.Goals as goal

pub returns-in_default : goal.returns-in_default
returns-in_default c = search (rules, drop-unknown)

pub returns : goal.returns
returns c = search (rules, drop-found)
