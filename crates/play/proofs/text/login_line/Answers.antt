use borrow.Author.Rules.{rules}
use Rattle.play.proofs.text.Turns.{login-as, login-not}
use Rattle.play.proofs.text.login_line.Goals as goal

pub returns-in-Ok : goal.returns-in-Ok
returns-in-Ok c = (search (rules, login-as), search rules)

pub returns-in-Err : goal.returns-in-Err
returns-in-Err c = (search (rules, login-not), search rules)
