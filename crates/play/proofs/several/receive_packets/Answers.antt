use borrow.Author.Rules.{rules}
use Rattle.flow.specs.Several.{receiving}
use Rattle.flow.proofs.several.Received.{some-packet, answer-in, stop-turn, on-turn}
use Rattle.flow.proofs.several.Walks.{start-turn, rest-turn}
use Rattle.play.specs.Lines.{received_line}
use Rattle.play.proofs.several.Lines.{lines_start, lines_rest}
use Rattle.play.proofs.several.Received.{on_room, packet-fits, stop-lines, on-lines}
use Rattle.play.proofs.several.receive_packets.Goals as goal

pub loop-end-init : goal.loop-end-init
loop-end-init c = (
  search rules,
  search rules,
  search rules,
  search rules,
  search rules,
  search (rules, start-turn receiving),
  search (rules, lines_start receiving received_line),
)

pub returns-then-n-eq0 : goal.returns-then-n-eq0
returns-then-n-eq0 c = (
  search (rules, rest-turn receiving some-packet),
  search (rules, lines_rest receiving received_line some-packet),
  search rules,
  search rules,
)

pub received_at-to-requires : goal.received_at-to-requires
received_at-to-requires c = (search (rules, packet-fits), search rules)

pub receive_turn-turn-requires : goal.receive_turn-turn-requires
receive_turn-turn-requires c = (search (rules, answer-in), search rules)

pub returns-in-Some : goal.returns-in-Some
returns-in-Some c = (search (rules, stop-turn), search (rules, stop-lines), search rules, search rules)

pub loop-end-preserved : goal.loop-end-preserved
loop-end-preserved c = (
  search rules,
  search rules,
  search rules,
  search (rules, on_room),
  search rules,
  search (rules, on-turn),
  search (rules, on-lines),
)
