use borrow.Author.Rules.{rules}
use Rattle.play.proofs.receiving.Shown.{ask-shown, ask-bytes}
use Rattle.play.proofs.receiving.ask.Goals as goal

pub returns : goal.returns
returns c = ((search rules, search (rules, ask-shown), search rules), search (rules, ask-bytes))
