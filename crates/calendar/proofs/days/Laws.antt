-- What holds of days and dates, for every day. Assumes nothing.
use Prim.Native.Nat.{ℕ, zero, suc, ◌+◌, ◌-◌, ◌<◌, ◌≤◌}
use native.Mathlib.Omega.{arith}
use mathlib.Core.Path.{◌≡◌, refl, sym, ap, ◌∙◌}
use mathlib.Core.List.{List, [], ◌∷◌}
use mathlib.Core.Bool.{Bool, true, false}
use borrow.Author.Tests.{leb-true, leb-false}
use lib.ListN.{get_or, take}
use lib.Dec.{leb}
use Rattle.ftd.specs.Gregorian.{leap_year, months_by, months, month_days}
use Rattle.ftd.proofs.gregorian.Laws.{month-most}
use Rattle.calendar.specs.declared.days.CivilDate.{CivilDate}
use Rattle.calendar.specs.Days.{date, total, year_days, years_days, date_of, day_of, date_number}
use Rattle.calendar.specs.Days.Laws.{Civil, DayLaws}
use Rattle.calendar.specs.Days.Helpers.{before_year, before_month}
use Rattle.calendar.proofs.days.Counting.{month-at, years-on, years-many, year-at}
use Rattle.calendar.proofs.days.Found.{found, month-made, date-made, year-start}

-- The parts of a day's date.
record Dated (n : ℕ) : Type 0 where
  y : ℕ
  m : ℕ
  r : ℕ
  first : 1970 ≤ y
  one : 1 ≤ m
  twelve : m ≤ 12
  within : r < get_or (months y) (m - 1) 0
  counted : n ≡ years_days 1970 (y - 1970) + (total (take (m - 1) (months y)) + r)
  is : date y m (r + 1) ≡ date_of n
  early : before_year y ≤ n + 719162

dated : (n : ℕ) → Dated n
unfolding months
dated n =
    let f = found n in
    let rest = n + 719162 - before_year f.y in
    let made = month-made f.y rest f.m (leap_year f.y) f.monthly in
    let whole = made.0 in
    let start = year-start n f.y f.yearly in
    let from = f.yearly.from in
    record {
      y = f.y;
      m = f.m;
      r = rest - before_month (leap_year f.y) f.m;
      first = f.yearly.first;
      one = f.monthly.first;
      twelve = f.monthly.last;
      within = made.1;
      counted = omega arith;
      is = date-made n f.y f.m rest (leap_year f.y) f.yearly refl refl f.monthly;
      early = from;
    }

civil-date : (n : ℕ) → Civil (date_of n)
unfolding month_days
civil-date n =
    let d = dated n in
    let w : Civil (date d.y d.m (d.r + 1)) =
    record {
      year = d.first;
      month = d.one;
      twelve = d.twelve;
      day = omega arith;
      within = omega (arith, d.within);
    } in
    rw d.is at w

day-back : (n : ℕ) → day_of (date_of n) ≡ n
unfolding day_of
day-back n =
    let d = dated n in
    let z : d.r + 1 - 1 ≡ d.r = omega arith in
    ap day_of (sym d.is) ∙ rw z (sym d.counted)

-- A day of a month is a day of the year.
days-within : (l : List ℕ) (i r : ℕ) → r < get_or l i 0 → total (take i l) + r < total l
days-within [] i r h = absurd (omega arith)
days-within (x ∷ l) zero r h = omega arith
days-within (x ∷ l) (suc i) r h = let w = days-within l i r h in omega arith

year-holds : (y rest : ℕ) → rest < total (months_by (leap_year y)) → rest < year_days y
unfolding year_days months
year-holds y rest h = h

-- The date of a day that is counted up.
date-counted : (y m r : ℕ) → 1970 ≤ y → 1 ≤ m → m ≤ 12 → r < get_or (months y) (m - 1) 0
    → date_of (years_days 1970 (y - 1970) + (total (take (m - 1) (months y)) + r)) ≡ date y m (r + 1)
unfolding date_of months
date-counted y m r h one twelve within =
    let k = y - 1970 in
    let l = months_by (leap_year y) in
    let rest = total (take (m - 1) l) + r in
    let n = years_days 1970 k + rest in
    let same : 1970 + k ≡ y = omega arith in
    let few = years-many 1970 k in
    let inside : rest < total l = days-within l (m - 1) r within in
    let year = rw same at (year-at n 1970 k rest (omega arith) (rw same (year-holds y rest inside))) in
    let back : 1 + (m - 1) ≡ m = omega arith in
    year ∙ (rw back at (month-at y 1 l (m - 1) r (omega arith) within))

date-again : (c : CivilDate) → Civil c → date_of (day_of c) ≡ c
unfolding day_of month_days
date-again c w =
    let e : c.day - 1 + 1 ≡ c.day = omega (arith, w.day) in
    let inside : c.day - 1 < get_or (months c.year) (c.month - 1) 0 = omega (arith, w.day, w.within) in
    rw e at (date-counted c.year c.month (c.day - 1) w.year w.month w.twelve inside)

number-differs : (m n : ℕ) → date_number m ≡ date_number n → m ≡ n
unfolding date_number
number-differs m n e =
    let a = civil-date m in
    let b = civil-date n in
    let a31 = month-most (date_of m).year (date_of m).month in
    let b31 = month-most (date_of n).year (date_of n).month in
    let x = a.within in
    let y = b.within in
    let p = a.twelve in
    let q = b.twelve in
    let year : (date_of m).year ≡ (date_of n).year = omega arith in
    let month : (date_of m).month ≡ (date_of n).month = omega arith in
    let day : (date_of m).day ≡ (date_of n).day = omega arith in
    sym (day-back m) ∙ ap day_of (same (date_of m) (date_of n) year month day) ∙ day-back n
  where
    parts : (y y' m m' d d' : ℕ) → y ≡ y' → m ≡ m' → d ≡ d' → date y m d ≡ date y' m' d'
    parts y y' m m' d d' p q r = rw (p, q, r)

    same : (c d : CivilDate) → c.year ≡ d.year → c.month ≡ d.month → c.day ≡ d.day → c ≡ d
    same c d p q r = parts c.year d.year c.month d.month c.day d.day p q r

year-most : (n : ℕ) → n ≤ 49755 → (date_of n).year ≤ 2106
year-most n h =
    let d = dated n in
    let e : d.y ≡ (date_of n).year = ap (λ (c : CivilDate). c.year) d.is in
    omega (arith, e, go d.y d.early (leb d.y 2106) refl)
  where
    go : (y : ℕ) → before_year y ≤ n + 719162 → (b : Bool) → leb y 2106 ≡ b → y ≤ 2106
    go y f true p = leb-true y 2106 p
    go y f false p =
        let q = leb-false y 2106 p in
        let e : 2107 + (y - 2107) ≡ y = omega arith in
        absurd (omega (arith, rw e at (years-on 2107 (y - 2107) (omega arith))))

day-first : date_of 0 ≡ date 1970 1 1
unfolding date_of months leap_year
day-first = refl

pub day-laws : DayLaws
day-laws =
    record {
      first = day-first;
      civil = civil-date;
      back = day-back;
      again = date-again;
      differs = number-differs;
      years = year-most;
    }
