use borrow.Author.Rules.{rules}
use Rattle.play.proofs.several.Shown.{behind-wrote, behind-inside, passing-behind}
use Rattle.play.proofs.several.received_at.Goals as goal

pub returns : goal.returns
returns c = (search (rules, behind-wrote), search (rules, behind-inside), search (rules, passing-behind))
