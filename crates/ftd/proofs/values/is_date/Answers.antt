use borrow.Author.Rules.{rules}
use Rattle.ftd.proofs.values.Checks.{date-width, date-spaces, date-other, date-digits}
use Rattle.ftd.proofs.values.is_date.Goals as goal

pub returns-else-s-eq8 : goal.returns-else-s-eq8
returns-else-s-eq8 c = search (rules, date-width)

pub returns-then-all_in : goal.returns-then-all_in
returns-then-all_in c = search (rules, date-spaces)

pub returns-then-all_in-2 : goal.returns-then-all_in-2
returns-then-all_in-2 c = search (rules, date-digits)

pub returns-else-all_in-2 : goal.returns-else-all_in-2
returns-else-all_in-2 c = search (rules, date-other)
