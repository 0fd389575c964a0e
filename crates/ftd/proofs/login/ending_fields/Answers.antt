use borrow.Author.Rules.{rules}
use Rattle.ftd.proofs.login.Writes.{fields_of_ending}
use Rattle.ftd.proofs.login.ending_fields.Goals as goal

pub returns-then-is_some : goal.returns-then-is_some
returns-then-is_some c = search (rules, fields_of_ending)

pub returns-else-is_some : goal.returns-else-is_some
returns-else-is_some c = search (rules, fields_of_ending)
