-- What holds of days and dates.
use Rattle.std.specs.Prelude.{ℕ, ◌≤◌, ◌≡◌}
use Rattle.ftd.specs.Gregorian.{month_days}
use Rattle.calendar.specs.declared.days.CivilDate.{CivilDate}
use Rattle.calendar.specs.Days.{date, date_of, day_of, date_number}

-- A date from 1970 on.
pub record Civil (c : CivilDate) : Type 0 where
  pub year : 1970 ≤ c.year
  pub month : 1 ≤ c.month
  pub twelve : c.month ≤ 12
  pub day : 1 ≤ c.day
  pub within : c.day ≤ month_days c.year c.month

pub record DayLaws : Type 0 where
  -- Day 0.
  pub first : date_of 0 ≡ date 1970 1 1
  -- Each day has a date, and is that date's day.
  pub civil : (n : ℕ) → Civil (date_of n)
  pub back : (n : ℕ) → day_of (date_of n) ≡ n
  -- Each date from 1970 on is its day's.
  pub again : (c : CivilDate) → Civil c → date_of (day_of c) ≡ c
  -- Two days never have one number.
  pub differs : (m n : ℕ) → date_number m ≡ date_number n → m ≡ n
  -- Every day up to 49,755 has a year of four digits, 2106 at most.
  pub years : (n : ℕ) → n ≤ 49755 → (date_of n).year ≤ 2106
