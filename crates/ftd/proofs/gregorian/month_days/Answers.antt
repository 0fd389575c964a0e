use borrow.Author.Rules.{rules}
use Rattle.ftd.proofs.gregorian.Laws.{february-long, february-short, other-month}
use Rattle.ftd.proofs.gregorian.month_days.Goals as goal

pub returns-then-is_leap : goal.returns-then-is_leap
returns-then-is_leap c = search (rules, february-long)

pub returns-then-month-eq2 : goal.returns-then-month-eq2
returns-then-month-eq2 c = search (rules, february-short)

pub returns : goal.returns
returns c = other-month _ _ (search rules) c.if-month-eq2.false
