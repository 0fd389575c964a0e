use borrow.Author.Rules.{rules}
use Rattle.play.proofs.serving.Shown.{send-sender, send-shown, send-bytes}
use Rattle.play.proofs.serving.send.Goals as goal

pub returns : goal.returns
returns c = ((search (rules, send-sender), search (rules, send-shown), search rules), search (rules, send-bytes))
