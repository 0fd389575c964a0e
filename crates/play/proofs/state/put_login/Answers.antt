use borrow.Author.Rules.{rules}
use Rattle.play.proofs.state.Turns.{login-in, login-out}
use Rattle.play.proofs.state.put_login.Goals as goal

pub returns-then-login : goal.returns-then-login
returns-then-login c = (search (rules, login-in), search rules)

pub returns : goal.returns
returns c = (search (rules, login-out), search rules)
