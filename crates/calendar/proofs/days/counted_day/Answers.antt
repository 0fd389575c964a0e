use native.Mathlib.Omega.{arith}
use Rattle.calendar.proofs.days.Back.{month-starts, small-parts, day-counted}
use Rattle.calendar.proofs.days.counted_day.Goals as goal

pub overflow_sub-years : goal.overflow_sub-years
overflow_sub-years c =
    let small = small-parts c.args.year c.args.month c.args.day c.requires.0 c.requires.1 in
    omega arith

pub before_month-months-requires : goal.before_month-months-requires
before_month-months-requires c =
    let small = small-parts c.args.year c.args.month c.args.day c.requires.0 c.requires.1 in
    (small.2, omega arith)

pub overflow_sub-result : goal.overflow_sub-result
overflow_sub-result c =
    let small = small-parts c.args.year c.args.month c.args.day c.requires.0 c.requires.1 in
    omega arith

pub overflow_add-result : goal.overflow_add-result
overflow_add-result c =
    let small = small-parts c.args.year c.args.month c.args.day c.requires.0 c.requires.1 in
    let start = month-starts c.is_leap.result c.args.month (omega arith) in
    omega arith

pub overflow_add-result-2 : goal.overflow_add-result-2
overflow_add-result-2 c =
    let small = small-parts c.args.year c.args.month c.args.day c.requires.0 c.requires.1 in
    let start = month-starts c.is_leap.result c.args.month (omega arith) in
    omega arith

pub overflow_cast-result-2 : goal.overflow_cast-result-2
overflow_cast-result-2 c =
    let small = small-parts c.args.year c.args.month c.args.day c.requires.0 c.requires.1 in
    let start = month-starts c.is_leap.result c.args.month (omega arith) in
    omega arith

pub returns : goal.returns
returns c =
    day-counted c.args.year c.args.month c.args.day c.requires.0 c.requires.1 c.is_leap.result c.is_leap.ensures
    c.before_year-years.result c.before_month-months.result c.before_year-years.ensures
    c.before_month-months.ensures
