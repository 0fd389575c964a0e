use native.Mathlib.Omega.{arith}
use borrow.Author.Rules.{rules}
use Rattle.calendar.proofs.holidays.Laws.{date-small}
use Rattle.calendar.specs.Days.{date_number}
use Rattle.calendar.proofs.holidays.date_number.Goals as goal

pub overflow_mul-result : goal.overflow_mul-result
overflow_mul-result c =
    omega (arith, date-small _ c.date_of-date.result c.date_of-date.ensures (search rules))

pub overflow_mul-result-2 : goal.overflow_mul-result-2
overflow_mul-result-2 c =
    omega (arith, date-small _ c.date_of-date.result c.date_of-date.ensures (search rules))

pub overflow_add-result : goal.overflow_add-result
overflow_add-result c =
    omega (arith, date-small _ c.date_of-date.result c.date_of-date.ensures (search rules))

pub overflow_add-result-2 : goal.overflow_add-result-2
overflow_add-result-2 c =
    omega (arith, date-small _ c.date_of-date.result c.date_of-date.ensures (search rules))

pub returns : goal.returns
unfolding date_number
returns c = rw (← c.date_of-date.ensures)
