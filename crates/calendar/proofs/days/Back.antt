-- The day of a date, by arithmetic. Assumes nothing.
use Prim.Native.Nat.{ℕ, suc, ◌+◌, ◌-◌, ◌<◌, ◌≤◌}
use native.Mathlib.Omega.{arith}
use mathlib.Core.Path.{◌≡◌}
use mathlib.Core.Bool.{Bool, true, false}
use borrow.Author.Tests.{lt-ltb, le-ltb}
use lib.ListN.{take}
use Rattle.ftd.specs.Gregorian.{leap_year, months_by, months, real_date}
use Rattle.ftd.proofs.gregorian.Laws.{real-bounds}
use Rattle.calendar.specs.declared.days.CivilDate.{CivilDate}
use Rattle.calendar.specs.Days.{date, total, years_days, day_of, day_for}
use Rattle.calendar.specs.Days.Helpers.{before_year, before_month}
use Rattle.calendar.proofs.days.Counting.{before-month, years-on}
use Rattle.std.specs.Prelude.{Some, None}

-- A month begins in the first 367 days.
pub month-starts : (leap : Bool) (m : ℕ) → m ≤ 13 → before_month leap m ≤ 367
unfolding before_month
month-starts leap m h = omega arith

module _ (y m d : ℕ) (h : 1970 ≤ y) where
  pub years-counted : years_days 1970 (y - 1970) + 719162 ≡ before_year y
  years-counted =
      let e : 1970 + (y - 1970) ≡ y = omega arith in
      omega (arith, rw e at (years-on 1970 (y - 1970) (omega arith)))

  module _ (w : real_date y m d ≡ true) where
    -- The bounds of what the code adds up.
    pub small-parts : (719162 ≤ before_year y) × (before_year y ≤ 4000000) × (1 ≤ m) × (m ≤ 12) × (1 ≤ d) × (d ≤ 31)
    small-parts =
        let bounds = real-bounds y m d w in
        let last = bounds.last in
        let years = years-counted in
        (omega arith, omega arith, bounds.month, bounds.twelve, bounds.day, bounds.most)

    pub day-counted : (leap : Bool) → leap ≡ leap_year y → (a b : ℕ) → a ≡ before_year y → b ≡ before_month leap m
        → a - 719162 + (b + (d - 1)) ≡ day_of (date y m d)
    unfolding day_of months
    day-counted leap l a b p q =
        let bounds = real-bounds y m d w in
        let one = bounds.month in
        let twelve = bounds.twelve in
        let e : suc (m - 1) ≡ m = omega arith in
        let start : total (take (m - 1) (months_by leap)) ≡ before_month leap m =
        rw e at (before-month leap (m - 1) (omega arith)) in
        let years = years-counted in
        rw (← l) (omega arith)

module _ (c : CivilDate) where
  pub day-early : c.year < 1970 → None ≡ day_for c
  unfolding day_for
  day-early h = rw (lt-ltb c.year 1970 h)

  module _ (h : 1970 ≤ c.year) (a : Bool) (p : a ≡ real_date c.year c.month c.day) where
    pub day-unreal : a ≡ false → None ≡ day_for c
    unfolding day_for
    day-unreal e = rw (le-ltb c.year 1970 h, ← p, e)

    pub day-real : a ≡ true → (n : ℕ) → n ≡ day_of (date c.year c.month c.day) → Some n ≡ day_for c
    unfolding day_for
    day-real e n q = rw (le-ltb c.year 1970 h, ← p, e, q)
