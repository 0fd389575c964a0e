use borrow.Author.Rules.{rules}
use Rattle.relay.proofs.several.Turns.{start-box, rest-box, answer-in, stop-box, on-box}
use Rattle.relay.proofs.relay.Relay.receive_several.Goals as goal

-- src/several.rt:30:9
pub loop-end-init : goal.loop-end-init
loop-end-init c = (search rules, search rules, search rules, search (rules, start-box))

-- src/several.rt:33:17
pub returns-then-n-eq0 : goal.returns-then-n-eq0
returns-then-n-eq0 c = search (rules, rest-box)

-- src/several.rt:44:17
pub receive_turn-requires : goal.receive_turn-requires
receive_turn-requires c = (search (rules, answer-in), search rules)

-- src/several.rt:47:21
pub returns-in-Some : goal.returns-in-Some
returns-in-Some c = search (rules, stop-box)

-- src/several.rt:30:9
pub loop-end-preserved : goal.loop-end-preserved
loop-end-preserved c = (search rules, search rules, search rules, search (rules, on-box))
