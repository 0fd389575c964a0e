use borrow.Author.Rules.{rules}
use Rattle.play.proofs.words.Turns.{pair_is}
use Rattle.play.proofs.words.pair.Goals as goal

pub returns : goal.returns
returns c = search (rules, pair_is)
