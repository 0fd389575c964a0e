-- What holds of a calendar as numbers: nothing of it is lost between two calls.
use Rattle.std.specs.Prelude.{ℕ, ◌≡◌, List, length}
use Rattle.calendar.specs.Calendar.{fresh_calendar, set_of}
use Rattle.calendar.specs.declared.trading.Calendar.{Calendar}
use Rattle.exports.specs.declared.trading.FtdCalendar.{FtdCalendar}
use Rattle.exports.specs.Trading.{calendar_for, calendar_numbers, step_numbers}

-- Numbers that are a calendar: they say it. As in every value of the types, they have 24 and 32 places.
abbrev pub CalendarIs : FtdCalendar → Calendar → Type 0
CalendarIs n c = (calendar_for n ≡ c) × (length n.sessions ≡ 24) × (length n.holidays ≡ 32)

pub record CalendarNumberLaws : Type 0 where
  -- The numbers of a calendar say that calendar.
  pub back : (c : Calendar) → length c.sessions ≡ 24 → length c.holidays ≡ 32
      → CalendarIs (calendar_numbers c) c
  -- So calls one behind the other, each given the numbers that the last one left, are the calls of `calendar` one
  -- behind the other.
  pub fresh : CalendarIs (calendar_numbers fresh_calendar) fresh_calendar
  pub set : (n : FtdCalendar) (c : Calendar) → CalendarIs n c → (sessions holidays : List ℕ)
      → CalendarIs (step_numbers (set_of (calendar_for n) sessions holidays)).calendar
      (set_of c sessions holidays).calendar
