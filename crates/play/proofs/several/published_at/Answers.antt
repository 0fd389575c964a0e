use borrow.Author.Rules.{rules}
use Rattle.play.proofs.several.Shown.{behind-wrote}
use Rattle.play.proofs.several.published_at.Goals as goal

pub returns : goal.returns
returns c = (search (rules, behind-wrote), search rules)
