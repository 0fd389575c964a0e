-- Real dates (02, No. 7): years and months of the Gregorian calendar, shared by the date item and the trading calendar.
use Rattle.std.specs.Prelude.{ℕ, ◌-◌, ◌%◌, List, [], ◌∷◌, Bool, cond, not, ◌&&◌, ◌||◌, get_or, leb, eqb}

-- Divisible by 4 but not by 100, unless by 400.
unfoldable pub leap_year : ℕ → Bool
leap_year year = eqb (year % 4) 0 && (not (eqb (year % 100) 0) || eqb (year % 400) 0)

-- The days of the twelve months, by whether the year has a 29 February; of a year's months; of one, counted from 1.
abbrev pub months_by : Bool → List ℕ
months_by leap = 31 ∷ cond leap 29 28 ∷ 31 ∷ 30 ∷ 31 ∷ 30 ∷ 31 ∷ 31 ∷ 30 ∷ 31 ∷ 30 ∷ 31 ∷ []

unfoldable pub months : ℕ → List ℕ
months year = months_by (leap_year year)

unfoldable pub month_days : ℕ → ℕ → ℕ
month_days year month = get_or (months year) (month - 1) 0

-- A real date: years from 1601, four digits.
unfoldable pub real_date : ℕ → ℕ → ℕ → Bool
real_date year month day =
    (leb 1601 year && leb year 9999) && ((leb 1 month && leb month 12) && (leb 1 day && leb day (month_days year month)))
