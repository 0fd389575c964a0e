use borrow.Author.Rules.{rules}
use Rattle.flow.proofs.receive.Back.{take-unknown, take_found}
use Rattle.flow.proofs.receive.take_packet.Goals as goal

pub returns-in_default : goal.returns-in_default
returns-in_default c = search (rules, take-unknown)

pub returns : goal.returns
returns c = search (rules, take_found)
