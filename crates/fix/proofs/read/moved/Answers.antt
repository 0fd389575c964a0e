use borrow.Author.Rules.{rules}
use Rattle.fix.proofs.read.Judging.{moved_none, moved-some, moved-fits}
use Rattle.fix.proofs.read.moved.Goals as goal

pub overflow_add-result : goal.overflow_add-result
overflow_add-result c = search (rules, moved-fits)

pub returns-in-None : goal.returns-in-None
returns-in-None c = search (rules, moved_none)

pub returns-in-Some : goal.returns-in-Some
returns-in-Some c = search (rules, moved-some)
