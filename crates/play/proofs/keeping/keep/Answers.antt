use borrow.Author.Rules.{rules}
use Rattle.play.proofs.keeping.Shown.{checkpoints-are, saved-is}
use Rattle.play.proofs.keeping.keep.Goals as goal

pub returns : goal.returns
returns c = (search (rules, checkpoints-are), search (rules, saved-is), search rules)
