use native.Mathlib.Omega.{arith}
use Rattle.calendar.proofs.days.Found.{rest-fits, date-parts}
use Rattle.calendar.proofs.days.date_of.Goals as goal

pub month_at-month-requires : goal.month_at-month-requires
month_at-month-requires c =
    rest-fits c.args.day c.year_at-year.result c.is_leap-leap.result c.year_at-year.ensures
    c.before_year.result c.before_year.ensures c.is_leap-leap.ensures

pub overflow_cast-result-3 : goal.overflow_cast-result-3
overflow_cast-result-3 c =
    let f =
    rest-fits c.args.day c.year_at-year.result c.is_leap-leap.result c.year_at-year.ensures
    c.before_year.result c.before_year.ensures
    c.is_leap-leap.ensures in
    omega (arith, f.0)

pub returns : goal.returns
returns c =
    date-parts c.args.day c.year_at-year.result c.is_leap-leap.result c.year_at-year.ensures
    c.before_year.result c.before_year.ensures
    c.is_leap-leap.ensures
    c.month_at-month.result c.month_at-month.ensures c.before_month.result c.before_month.ensures
