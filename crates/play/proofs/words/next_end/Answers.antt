use borrow.Author.Rules.{rules}
use Rattle.play.proofs.words.Arguments.{next-some, next-none}
use Rattle.play.proofs.words.next_end.Goals as goal

pub returns-then-e-line : goal.returns-then-e-line
returns-then-e-line c = (search (rules, next-some), search rules)

pub returns : goal.returns
returns c = (search (rules, next-none), search rules)
