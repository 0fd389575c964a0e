use borrow.Author.Rules.{rules}
use Rattle.flow.proofs.several.Published.{head-missing, rest-long, rest-missing}
use Rattle.flow.proofs.several.record_missing.Goals as goal

pub returns-then-x-lt10 : goal.returns-then-x-lt10
returns-then-x-lt10 c = search (rules, head-missing)

pub overflow_sub-result-2 : goal.overflow_sub-result-2
overflow_sub-result-2 c = search (rules, rest-long)

pub returns : goal.returns
returns c = search (rules, rest-missing)
