use borrow.Author.Rules.{rules}
use Rattle.play.proofs.serving.Shown.{sender-is, published-is}
use Rattle.play.proofs.serving.publish.Goals as goal

pub returns : goal.returns
returns c = ((search (rules, sender-is), search (rules, published-is), search rules), search rules)
