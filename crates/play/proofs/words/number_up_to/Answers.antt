use borrow.Author.Rules.{rules}
use Rattle.play.proofs.words.Arguments.{above-top, up-to-top}
use Rattle.play.proofs.words.number_up_to.Goals as goal

pub returns-then-x-top : goal.returns-then-x-top
returns-then-x-top c = (search (rules, above-top), search rules)

pub returns : goal.returns
returns c = (search (rules, up-to-top), search rules)
