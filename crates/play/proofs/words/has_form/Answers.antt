use borrow.Author.Rules.{rules}
use Rattle.play.specs.Words.{has_form}
use Rattle.play.proofs.calls.Rows.{found, passed}
use Rattle.play.proofs.words.has_form.Goals as goal

pub returns-then-has_arguments : goal.returns-then-has_arguments
unfolding has_form
returns-then-has_arguments c = search (rules, found, passed)

pub returns-else-has_arguments : goal.returns-else-has_arguments
unfolding has_form
returns-else-has_arguments c = search (rules, found, passed)
