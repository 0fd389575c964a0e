use borrow.Author.Rules.{rules}
use Rattle.play.proofs.keeping.Shown.{keep-played}
use Rattle.play.proofs.keeping.play_keep.Goals as goal

pub returns : goal.returns
returns c = search (rules, keep-played)
