use borrow.Author.Rules.{rules}
use Rattle.play.proofs.words.Arguments.{count-is}
use Rattle.play.proofs.words.has_arguments.Goals as goal

pub returns : goal.returns
returns c = search (rules, count-is)
