-- Holidays: row 27 by its two tests, and a date's number. Assumes nothing.
use Prim.Native.Nat.{ℕ, ◌<◌, ◌≤◌}
use native.Mathlib.Omega.{arith}
use mathlib.Core.Path.{◌≡◌}
use mathlib.Core.List.{List}
use mathlib.Core.Bool.{true}
use borrow.Author.Tests.{lt-ltb, le-ltb}
use lib.ListN.{length}
use Rattle.ftd.proofs.gregorian.Laws.{month-most}
use Rattle.calendar.specs.declared.days.CivilDate.{CivilDate}
use Rattle.calendar.specs.Days.{date_of}
use Rattle.calendar.specs.Calendar.{some, unreal, wrong_holidays}
use Rattle.calendar.proofs.days.Laws.{day-laws}

pub holiday-many : (l : List ℕ) → 32 < length l → true ≡ wrong_holidays l
unfolding wrong_holidays
holiday-many l h = rw (lt-ltb 32 (length l) h)

pub holiday-else : (l : List ℕ) → length l ≤ 32 → some (length l) (unreal l) ≡ wrong_holidays l
unfolding wrong_holidays
holiday-else l h = rw (le-ltb 32 (length l) h)

-- A day up to 49,755 has a date whose parts are small.
pub date-small : (n : ℕ) (c : CivilDate) → c ≡ date_of n → n ≤ 49755
    → (c.year ≤ 2106) × (c.month ≤ 12) × (c.day ≤ 31)
date-small n c e h =
    let w = day-laws.civil n in
    let y = day-laws.years n h in
    let m = month-most (date_of n).year (date_of n).month in
    rw e (y, w.twelve, omega (arith, w.within, m))
