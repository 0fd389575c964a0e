use borrow.Author.Rules.{rules}
use Rattle.play.proofs.text.Turns.{packet-last, packet-more}
use Rattle.play.proofs.text.packet_line.Goals as goal

pub returns-then-last : goal.returns-then-last
returns-then-last c = (search (rules, packet-last), search rules)

pub returns : goal.returns
returns c = (search (rules, packet-more), search rules)
