use borrow.Author.Rules.{rules}
use Rattle.flow.proofs.several.Received.{complete-in, complete-stops, refused-stops}
use Rattle.flow.proofs.several.receive_turn.Goals as goal

pub placed-requires : goal.placed-requires
placed-requires c = search (rules, complete-in)

pub returns-in-Complete : goal.returns-in-Complete
returns-in-Complete c = search (rules, complete-stops)

pub returns-in-Refused : goal.returns-in-Refused
returns-in-Refused c = search (rules, refused-stops)
