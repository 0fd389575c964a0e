use borrow.Author.Rules.{rules}
use Rattle.flow.proofs.log.Walked.{find-short, find-used}
use Rattle.flow.proofs.log.find_entry.Goals as goal

pub returns-then-log-used : goal.returns-then-log-used
returns-then-log-used c = search (rules, find-short)

pub returns : goal.returns
returns c = search (rules, find-used)
