use borrow.Author.Rules.{rules}
use Rattle.play.proofs.text.Turns.{outcome-done, outcome-not}
use Rattle.play.proofs.text.outcome_line.Goals as goal

pub returns-in-Ok : goal.returns-in-Ok
returns-in-Ok c = (search (rules, outcome-done), search rules)

pub returns-in-Err : goal.returns-in-Err
returns-in-Err c = (search (rules, outcome-not), search rules)
