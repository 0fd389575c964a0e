use borrow.Author.Rules.{rules}
use Rattle.play.proofs.serving.Shown.{sender-is, opened-is}
use Rattle.play.proofs.serving.open_day.Goals as goal

pub returns : goal.returns
returns c = (search (rules, sender-is), search (rules, opened-is), search rules)
