use borrow.Author.Rules.{rules}
use Rattle.play.proofs.words.Arguments.{number_is}
use Rattle.play.proofs.calls.number_at.Goals as goal

pub returns : goal.returns
returns c = search (rules, number_is)
