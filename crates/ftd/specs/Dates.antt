-- The value of a Date (01, "Typed items"): unused, or year, month and day; and its bytes.
pub mod Examples
use Rattle.std.specs.Prelude.{ℕ, List, [], ◌++◌, Bool, true, false, cond, replicate}
use Rattle.ftd.specs.Gregorian.{real_date}
use Rattle.ftd.specs.Values.{every, is_space, year_of, month_of, day_digits, is_date}
use Rattle.ftd.specs.Signed.Write.{digits_in}
use Rattle.ftd.specs.declared.dates.Date.{Date}
use Rattle.ftd.specs.declared.dates.Date.TheVariants.{NoDate, Unused, Day}

unfoldable pub date_value : List ℕ → Date
date_value l = cond (is_date l) (cond (every is_space l) Unused (Day (year_of l) (month_of l) (day_digits l))) NoDate

-- The bytes of a value: all spaces, or YYYYMMDD.
unfoldable pub date_bytes : Date → List ℕ
date_bytes NoDate = []
date_bytes Unused = replicate 8 0x20
date_bytes (Day year month day) = digits_in 4 year ++ (digits_in 2 month ++ digits_in 2 day)

unfoldable pub date_fits : Date → Bool
date_fits NoDate = false
date_fits Unused = true
date_fits (Day year month day) = real_date year month day
