use borrow.Author.Rules.{rules}
use Rattle.ftd.proofs.dates.Verdicts.{date-none, date-eight, date-unused, date-day}
use Rattle.ftd.proofs.dates.read_date.Goals as goal

pub returns-then-all_in : goal.returns-then-all_in
returns-then-all_in c = search (rules, date-unused)

pub day-requires : goal.day-requires
day-requires c = search (rules, date-eight)

pub returns-then-is_date : goal.returns-then-is_date
returns-then-is_date c = search (rules, date-day)

pub returns : goal.returns
returns c = search (rules, date-none)
