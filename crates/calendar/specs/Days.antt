-- Days and dates (02, No. 7): a day is counted from 0, the 1st of January 1970; its date is found by counting whole
-- years and months off.
pub mod Laws
pub mod Helpers
use Rattle.std.specs.Prelude.{ℕ, zero, suc, ◌+◌, ◌-◌, ◌*◌, List, [], ◌∷◌, Bool, cond, take, ltb}
use Rattle.ftd.specs.Gregorian.{months, real_date}
use Rattle.calendar.specs.declared.days.CivilDate.{CivilDate}
use Rattle.calendar.specs.Types.{DayFound}
use Rattle.std.specs.Prelude.{Some, None}

-- A year, a month from 1, a day from 1.
abbrev pub date : ℕ → ℕ → ℕ → CivilDate
date y m d = record { year = y; month = m; day = d }

abbrev pub total : List ℕ → ℕ
total [] = 0
total (n ∷ l) = n + total l

-- The days of a year: those of its months.
unfoldable pub year_days : ℕ → ℕ
year_days year = total (months year)

-- ─── The date of a day ───

-- n days behind the first of a month, whose days and those of the months behind it are listed.
abbrev pub month_in : ℕ → ℕ → List ℕ → ℕ → CivilDate
month_in year month [] n = date year month (n + 1)
month_in year month (l ∷ ls) n = cond (ltb n l) (date year month (n + 1)) (month_in year (suc month) ls (n - l))

-- n days behind the first of a year: whole years are taken off, at most `most` of them.
abbrev pub year_in : ℕ → ℕ → ℕ → CivilDate
year_in zero year n = month_in year 1 (months year) n
year_in (suc most) year n =
    cond (ltb n (year_days year)) (month_in year 1 (months year) n) (year_in most (suc year) (n - year_days year))

-- A year has a day at least, so there are no more of them than days.
unfoldable pub date_of : ℕ → CivilDate
date_of n = year_in n 1970 n

-- ─── The day of a date ───

-- The days of so many years from a year on.
abbrev pub years_days : ℕ → ℕ → ℕ
years_days year zero = 0
years_days year (suc n) = year_days year + years_days (suc year) n

-- Of a date from 1970 on.
unfoldable pub day_of : CivilDate → ℕ
day_of c = years_days 1970 (c.year - 1970) + (total (take (c.month - 1) (months c.year)) + (c.day - 1))

-- Of any date: none where it is no real date, or before 1970.
unfoldable pub day_for : CivilDate → DayFound
day_for c = cond (ltb c.year 1970) None (cond (real_date c.year c.month c.day) (Some (day_of c)) None)

-- ─── A date as a number ───

-- YYYYMMDD.
abbrev pub number_in : CivilDate → ℕ
number_in c = c.year * 10000 + (c.month * 100 + c.day)

unfoldable pub date_number : ℕ → ℕ
date_number n = number_in (date_of n)
