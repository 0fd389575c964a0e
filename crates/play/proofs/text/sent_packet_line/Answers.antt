use borrow.Author.Rules.{rules}
use Rattle.play.proofs.text.Turns.{one_none, one-as, one-not}
use Rattle.play.proofs.text.sent_packet_line.Goals as goal

pub returns-in-Ok-None : goal.returns-in-Ok-None
returns-in-Ok-None c = (search (rules, one_none), search rules)

pub returns-in-Ok-Some : goal.returns-in-Ok-Some
returns-in-Ok-Some c = (search (rules, one-as), search rules)

pub returns-in-Err : goal.returns-in-Err
returns-in-Err c = (search (rules, one-not), search rules)
