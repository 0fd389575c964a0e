use borrow.Author.Rules.{rules}
use Rattle.play.proofs.words.Arguments.{argument-some, argument-none}
use Rattle.play.proofs.words.argument.Goals as goal

pub returns-then-a-line : goal.returns-then-a-line
returns-then-a-line c = search (rules, argument-some)

pub returns : goal.returns
returns c = search (rules, argument-none)
