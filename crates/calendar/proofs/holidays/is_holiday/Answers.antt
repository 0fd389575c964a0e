use mathlib.Core.Path.{refl, ◌∙◌}
use lib.Dec.{eqb}
use Rattle.calendar.specs.Calendar.{stands_at, is_holiday}
use Rattle.calendar.proofs.Some.{some-list}
use Rattle.calendar.proofs.holidays.is_holiday.Goals as goal

pub returns : goal.returns
unfolding is_holiday
returns c =
    let s = c.args.s.now in
    let date = c.args.date in
    c.contains.ensures.value ∙ some-list (stands_at s date) s (λ n. eqb n date) 32 c.told-s (λ i k. refl)
