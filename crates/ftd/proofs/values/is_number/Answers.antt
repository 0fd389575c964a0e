use borrow.Author.Rules.{rules}
use Rattle.ftd.proofs.values.Checks.{empty-number}
use Rattle.ftd.proofs.values.is_number.Goals as goal

pub returns-else-not-is_empty : goal.returns-else-not-is_empty
returns-else-not-is_empty c = search (rules, empty-number)
