use borrow.Author.Rules.{rules}
use Rattle.play.proofs.words.Arguments.{above-is}
use Rattle.play.proofs.words.above.Goals as goal

pub returns : goal.returns
returns c = search (rules, above-is)
