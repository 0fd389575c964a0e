use borrow.Author.Rules.{rules}
use Rattle.flow.specs.Several.{receiving}
use Rattle.flow.proofs.several.Received.{some-packet, answer-in, stop-turn, on-turn}
use Rattle.flow.proofs.several.Walks.{start-turn, rest-turn}
use Rattle.flow.proofs.receiver.Receiver.receive_several.Goals as goal

pub loop-end-init : goal.loop-end-init
loop-end-init c = (search rules, search rules, search (rules, start-turn receiving))

pub returns-then-n-eq0 : goal.returns-then-n-eq0
returns-then-n-eq0 c = search (rules, rest-turn receiving some-packet)

pub receive_turn-requires : goal.receive_turn-requires
receive_turn-requires c = (search (rules, answer-in), search rules)

pub returns-in-Some : goal.returns-in-Some
returns-in-Some c = search (rules, stop-turn)

pub loop-end-preserved : goal.loop-end-preserved
loop-end-preserved c = (search rules, search rules, search (rules, on-turn))
