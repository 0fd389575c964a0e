use borrow.Author.Rules.{rules}
use Rattle.play.proofs.text.Turns.{confirmed-as, confirmed-not}
use Rattle.play.proofs.text.confirmed_line.Goals as goal

pub returns-in-Ok : goal.returns-in-Ok
returns-in-Ok c = (search (rules, confirmed-as), search rules)

pub returns-in-Err : goal.returns-in-Err
returns-in-Err c = (search (rules, confirmed-not), search rules)
