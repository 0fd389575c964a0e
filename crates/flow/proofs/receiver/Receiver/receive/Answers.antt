use borrow.Author.Rules.{rules}
use Rattle.flow.proofs.receive.Whole.{decided-copied}
use Rattle.flow.proofs.receiver.Receiver.receive.Goals as goal

pub returns : goal.returns
returns c = search (rules, decided-copied)
