use borrow.Author.Rules.{rules}
use Rattle.flow.proofs.receiver.Lookups.{eight}
use Rattle.flow.proofs.receive.Whole.{not-packet, read-message, read-refused, read_short, read-idle}
use Rattle.flow.proofs.receiver.Receiver.decide.Goals as goal

pub returns-then-not_one_packet : goal.returns-then-not_one_packet
returns-then-not_one_packet c = search (rules, not-packet)

pub returns-in-Message : goal.returns-in-Message
returns-in-Message c = search (rules, eight, read-message)

pub returns-in-Refused : goal.returns-in-Refused
returns-in-Refused c = search (rules, read-refused)

pub returns-in-Short : goal.returns-in-Short
returns-in-Short c = search (rules, read_short)

pub returns-in_default : goal.returns-in_default
returns-in_default c = search (rules, read-idle)
