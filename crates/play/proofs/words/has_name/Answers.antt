use borrow.Author.Rules.{rules}
use Rattle.play.proofs.words.Arguments.{name-there, no_name}
use Rattle.play.proofs.words.has_name.Goals as goal

pub returns-then-has_arguments : goal.returns-then-has_arguments
returns-then-has_arguments c = rw c.is_empty.ensures (search (rules, name-there))

pub returns-else-has_arguments : goal.returns-else-has_arguments
returns-else-has_arguments c = search (rules, no_name)
