use borrow.Author.Rules.{rules}
use Rattle.ftd.proofs.tags.Turns.{tag-head}
use Rattle.ftd.proofs.tags.Listed.{walk-over, walk-next}
use Rattle.ftd.proofs.tags.TagsIterator.next.Goals as goal

pub returns-then-n-eq0-clause-steps : goal.returns-then-n-eq0-clause-steps
returns-then-n-eq0-clause-steps c = search (rules, walk-over)

pub overflow_sub-found : goal.overflow_sub-found
overflow_sub-found c = search (rules, tag-head)

pub returns-clause-steps : goal.returns-clause-steps
returns-clause-steps c = search (rules, walk-next)

pub returns-clause-goes : goal.returns-clause-goes
returns-clause-goes c = search (rules, walk-next)
