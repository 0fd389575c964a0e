use borrow.Author.Rules.{rules}
use Rattle.play.proofs.text.Turns.{sent-none, sent-as, sent-not}
use Rattle.play.proofs.text.sent_line.Goals as goal

pub returns-in-Ok-None : goal.returns-in-Ok-None
returns-in-Ok-None c = (search (rules, sent-none), search rules)

pub returns-in-Ok-Some : goal.returns-in-Ok-Some
returns-in-Ok-Some c = (search (rules, sent-as), search rules)

pub returns-in-Err : goal.returns-in-Err
returns-in-Err c = (search (rules, sent-not), search rules)
