-- Days before a year and before a month in closed form; of private contracts only.
use Rattle.std.specs.Prelude.{ℕ, ◌+◌, ◌-◌, ◌*◌, ◌/◌, Bool, cond, leb, ltb}

-- From the 1st of January of the year 1.
abbrev pub before_year : ℕ → ℕ
before_year year = (year - 1) * 365 + (year - 1) / 4 - (year - 1) / 100 + (year - 1) / 400

-- Of a year; 13 stands for the whole year.
unfoldable pub before_month : Bool → ℕ → ℕ
before_month leap month = (367 * month - 362) / 12 - cond (leb month 2) 0 (cond leap 1 2)

-- What February lacks of 30 days, for a day of the year behind it.
unfoldable pub lacking_at : Bool → ℕ → ℕ
lacking_at leap n = cond leap (cond (ltb n 60) 0 1) (cond (ltb n 59) 0 2)
