use borrow.Author.Rules.{rules}
use Rattle.play.proofs.text.Turns.{part_room, from-packet, from-buffer}
use Rattle.play.proofs.text.complete_line.Goals as goal

pub message_line-requires : goal.message_line-requires
message_line-requires c = search (rules, part_room)

pub message_line-requires-in-Buffer : goal.message_line-requires-in-Buffer
message_line-requires-in-Buffer c = search (rules, part_room)

pub returns-in-Packet : goal.returns-in-Packet
returns-in-Packet c = (search (rules, from-packet), search rules)

pub returns-in-Buffer : goal.returns-in-Buffer
returns-in-Buffer c = (search (rules, from-buffer), search rules)
