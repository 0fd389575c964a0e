use borrow.Author.Rules.{rules}
use Rattle.play.proofs.serving.Shown.{login-sender, login-shown, login-bytes}
use Rattle.play.proofs.serving.login.Goals as goal

pub returns : goal.returns
returns c = ((search (rules, login-sender), search (rules, login-shown), search rules), search (rules, login-bytes))
