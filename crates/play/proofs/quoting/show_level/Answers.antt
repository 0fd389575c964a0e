use borrow.Author.Rules.{rules}
use Rattle.play.proofs.quoting.Shown.{level-is}
use Rattle.play.proofs.quoting.show_level.Goals as goal

pub returns : goal.returns
returns c = (search rules, search (rules, level-is), search rules)
