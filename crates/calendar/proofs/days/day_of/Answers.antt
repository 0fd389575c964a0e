use mathlib.Core.Path.{sym, ◌∙◌}
use borrow.Author.Rules.{rules}
use Rattle.calendar.proofs.days.Back.{day-early, day-unreal, day-real}
use Rattle.calendar.proofs.days.day_of.Goals as goal
use Rattle.calendar.proofs.days.day_of.Goals.{then-year-lt1970-via-then-year-lt1970}
use Rattle.calendar.proofs.days.day_of.Goals.{then-year-lt1970-via-else-year-lt1970+then-not-is_real}

pub returns-then-year-lt1970 : goal.returns-then-year-lt1970
returns-then-year-lt1970 c =
    elim c.then-year-lt1970.branch [
      | then-year-lt1970-via-then-year-lt1970 w ↦ search (rules, day-early)
      | then-year-lt1970-via-else-year-lt1970+then-not-is_real w ↦ search (rules, day-unreal)
    ]

pub counted_day-requires : goal.counted_day-requires
counted_day-requires c = (search rules, sym c.is_real.ensures ∙ c.if-not-is_real.false)

pub returns : goal.returns
returns c = search (rules, day-real)
