use borrow.Author.Rules.{rules}
use Rattle.play.proofs.keeping.Shown.{return-played}
use Rattle.play.proofs.keeping.play_return.Goals as goal

pub returns : goal.returns
returns c = search (rules, return-played)
