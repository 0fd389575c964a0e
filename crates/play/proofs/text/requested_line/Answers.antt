use borrow.Author.Rules.{rules}
use Rattle.play.proofs.text.Turns.{requested-as, requested-not}
use Rattle.play.proofs.text.requested_line.Goals as goal

pub returns-in-Ok : goal.returns-in-Ok
returns-in-Ok c = (search (rules, requested-as), search rules)

pub returns-in-Err : goal.returns-in-Err
returns-in-Err c = (search (rules, requested-not), search rules)
