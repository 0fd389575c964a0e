-- The year and the month that the code finds, and the date made of them. Assumes nothing.
use Prim.Native.Nat.{ℕ, suc, ◌+◌, ◌-◌, ◌*◌, ◌/◌, ◌<◌, ◌≤◌}
use native.Mathlib.Omega.{arith}
use mathlib.Core.Path.{◌≡◌, refl, sym, ap, ◌∙◌}
use mathlib.Core.Bool.{Bool, true, false, cond}
use borrow.Author.Tests.{le-leb, lt-leb, leb-true, leb-false, ltb-true, ltb-false}
use lib.ListN.{get_or, take}
use lib.Dec.{ltb, leb}
use Rattle.ftd.specs.Gregorian.{leap_year, months_by, months}
use Rattle.calendar.specs.Days.{date, total, year_days, month_in, year_in, years_days, date_of}
use Rattle.calendar.specs.Days.Helpers.{before_year, before_month, lacking_at}
use Rattle.calendar.proofs.days.Counting.{total-more, month-at, before-month, year-on, years-on, years-many}
use Rattle.calendar.proofs.days.Counting.{year-at}

-- ─── The month ───

early : (leap : Bool) (m : ℕ) → m ≤ 2 → before_month leap m ≡ (367 * m - 362) / 12
unfolding before_month
early leap m h = rw (le-leb m 2 h) (omega arith)

late : (leap : Bool) (m : ℕ) → 2 < m → before_month leap m ≡ (367 * m - 362) / 12 - cond leap 1 2
unfolding before_month
late leap m h = rw (lt-leb m 2 h)

-- The month m holds the day n of the year.
pub record Month (leap : Bool) (n m : ℕ) : Type 0 where
  pub first : 1 ≤ m
  pub last : m ≤ 12
  pub from : before_month leap m ≤ n
  pub to : n < before_month leap (m + 1)

-- In January and February nothing lacks.
early-month : (leap : Bool) (n m : ℕ) → n < 60 - cond leap 0 1 → m ≡ (12 * (n + 0) + 373) / 367 → Month leap n m
early-month leap n m h e = go leap h (leb (m + 1) 2) refl
  where
    two : m ≤ 2
    two = omega arith

    go : (l : Bool) → n < 60 - cond l 0 1 → (b : Bool) → leb (m + 1) 2 ≡ b → Month l n m
    go l h true p =
        let q = leb-true (m + 1) 2 p in
        record {
          first = omega arith;
          last = omega arith;
          from = omega (arith, early l m (omega arith));
          to = omega (arith, early l (m + 1) q);
        }
    go true h false p =
        let q = leb-false (m + 1) 2 p in
        record {
          first = omega arith;
          last = omega arith;
          from = omega (arith, early true m (omega arith));
          to = omega (arith, late true (m + 1) q);
        }
    go false h false p =
        let q = leb-false (m + 1) 2 p in
        record {
          first = omega arith;
          last = omega arith;
          from = omega (arith, early false m (omega arith));
          to = omega (arith, late false (m + 1) q);
        }

pub month-found : (leap : Bool) (n k m : ℕ) → n < 366 → n < before_month leap 13 → k ≡ lacking_at leap n
    → m ≡ (12 * (n + k) + 373) / 367 → Month leap n m
unfolding lacking_at
month-found true n k m small h e f = go (ltb n 60) refl e
  where
    go : (b : Bool) → ltb n 60 ≡ b → k ≡ cond b 0 1 → Month true n m
    go true p e = early-month true n m (ltb-true n 60 p) (rw e at f)
    go false p e =
        let q = ltb-false n 60 p in
        record {
          first = omega arith;
          last = omega (arith, late true 13 (omega arith));
          from = omega (arith, late true m (omega arith));
          to = omega (arith, late true (m + 1) (omega arith));
        }
month-found false n k m small h e f = go (ltb n 59) refl e
  where
    go : (b : Bool) → ltb n 59 ≡ b → k ≡ cond b 0 2 → Month false n m
    go true p e = early-month false n m (ltb-true n 59 p) (rw e at f)
    go false p e =
        let q = ltb-false n 59 p in
        record {
          first = omega arith;
          last = omega (arith, late false 13 (omega arith));
          from = omega (arith, late false m (omega arith));
          to = omega (arith, late false (m + 1) (omega arith));
        }

-- ─── The date ───

-- The year y holds the day n, counted from 1970.
pub record Year (n y : ℕ) : Type 0 where
  pub first : 1970 ≤ y
  pub from : before_year y ≤ n + 719162
  pub to : n + 719162 < before_year (y + 1)

-- No year before 1970 does.
pub from-1970 : (n y : ℕ) → 1 ≤ y → before_year y ≤ n + 719162 → n + 719162 < before_year (y + 1) → Year n y
from-1970 n y h f t = go (leb 1970 y) refl
  where
    go : (b : Bool) → leb 1970 y ≡ b → Year n y
    go true p = record { first = leb-true 1970 y p; from = f; to = t }
    go false p =
        let q = leb-false 1970 y p in
        let e : y + 1 + (1970 - (y + 1)) ≡ 1970 = omega arith in
        let m = rw e at (years-on (y + 1) (1970 - (y + 1)) (omega arith)) in
        absurd (omega (arith, m))

module _ (n y : ℕ) (w : Year n y) where
  -- The days of the years from 1970 to that one, and of the year.
  pub year-start : years_days 1970 (y - 1970) + 719162 ≡ before_year y
  year-start =
      let f = w.first in
      let e : 1970 + (y - 1970) ≡ y = omega arith in
      omega (arith, rw e at (years-on 1970 (y - 1970) (omega arith)))

  pub year-rest : n + 719162 - before_year y < year_days y
  year-rest =
      let f = w.first in
      let e : suc y ≡ y + 1 = omega arith in
      let t = rw e at (year-on y (omega arith)) in
      omega (arith, t, w.from, w.to)

-- So many days behind the first of the year are that month and day.
pub month-made : (y rest m : ℕ) (leap : Bool) → Month leap rest m
    → (rest ≡ total (take (m - 1) (months_by leap)) + (rest - before_month leap m))
    × (rest - before_month leap m < get_or (months_by leap) (m - 1) 0)
    × (month_in y 1 (months_by leap) rest ≡ date y m (rest - before_month leap m + 1))
month-made y rest m leap w =
    let i = m - 1 in
    let r = rest - before_month leap m in
    let one = w.first in
    let twelve = w.last in
    let from = w.from in
    let e : suc i ≡ m = omega arith in
    let f : suc (suc i) ≡ m + 1 = omega arith in
    let a : total (take i (months_by leap)) ≡ before_month leap m = rw e at (before-month leap i (omega arith)) in
    let b : total (take (suc i) (months_by leap)) ≡ before_month leap (m + 1) =
    rw f at (before-month leap (suc i) (omega arith)) in
    let more = total-more (months_by leap) i (omega arith) in
    let within : r < get_or (months_by leap) i 0 = omega (arith, w.to) in
    let whole : rest ≡ total (take i (months_by leap)) + r = omega arith in
    let g : 1 + i ≡ m = omega arith in (
      whole,
      within,
      ap (λ (t : ℕ). month_in y 1 (months_by leap) t) whole
          ∙ (rw g at (month-at y 1 (months_by leap) i r (omega arith) within)),
    )

pub date-made : (n y m rest : ℕ) (leap : Bool) → Year n y → leap ≡ leap_year y → rest ≡ n + 719162 - before_year y
    → Month leap rest m → date y m (rest - before_month leap m + 1) ≡ date_of n
unfolding date_of months
date-made n y m rest leap w l e x =
    let k = y - 1970 in
    let first = w.first in
    let start = year-start n y w in
    let inside = year-rest n y w in
    let from = w.from in
    let whole : n ≡ years_days 1970 k + rest = omega arith in
    let same : 1970 + k ≡ y = omega arith in
    let few = years-many 1970 k in
    let year = rw same at (year-at n 1970 k rest (omega arith) (rw (same, e) inside)) in
    sym (ap (λ (t : ℕ). year_in n 1970 t) whole ∙ (rw (← l) at year) ∙ (month-made y rest m leap x).2)

-- ─── Every day has a date ───

pub record Found (n : ℕ) : Type 0 where
  pub y : ℕ
  pub m : ℕ
  pub yearly : Year n y
  pub monthly : Month (leap_year y) (n + 719162 - before_year y) m

pub year-found : (n q : ℕ) → q ≡ n * 400 / 146097 + 1
    → (before_year q ≤ n) × (n < before_year (q + 2))
year-found n q e = (omega arith, omega arith)

-- The days of the year as the months' closed form.
pub year-months : (y : ℕ) (leap : Bool) → leap ≡ leap_year y → year_days y ≡ before_month leap 13
unfolding year_days months
year-months y leap l = rw (← l) (before-month leap 12 (omega arith))

most-days : (leap : Bool) → before_month leap 13 ≤ 366
unfolding before_month
most-days true = omega arith
most-days false = omega arith

pub found : (n : ℕ) → Found n
found n = go (leb (before_year (q + 1)) t) refl
  where
    t : ℕ
    t = n + 719162

    q : ℕ
    q = t * 400 / 146097 + 1

    here : (y : ℕ) → 1 ≤ y → before_year y ≤ t → t < before_year (y + 1) → Found n
    here y h f g =
        let w = from-1970 n y h f g in
        let rest = t - before_year y in
        let inside = year-rest n y w in
        let days = year-months y (leap_year y) refl in
        let most = most-days (leap_year y) in
        record {
          y = y;
          m = (12 * (rest + lacking_at (leap_year y) rest) + 373) / 367;
          yearly = w;
          monthly = month-found (leap_year y) rest (lacking_at (leap_year y) rest) _ (omega arith) (omega arith) refl refl;
        }

    go : (b : Bool) → leb (before_year (q + 1)) t ≡ b → Found n
    go true p =
        let e : q + 1 + 1 ≡ q + 2 = omega arith in
        here (q + 1) (omega arith) (leb-true _ _ p) (rw e (year-found t q refl).1)
    go false p = here q (omega arith) (year-found t q refl).0 (leb-false _ _ p)

-- ─── The code's parts ───

-- What the code knows of the year that it found.
module _ (n y : ℕ) (leap : Bool)
    (w : (1 ≤ y) × (y < 20000000) × (before_year y ≤ n + 719162) × (n + 719162 < before_year (y + 1)))
    (b : ℕ) (e : b ≡ before_year y) (l : leap ≡ leap_year y) where
  pub rest-fits : (n + 719162 - b < 366) × (n + 719162 - b < before_month leap 13)
  rest-fits =
      let inside = year-rest n y (from-1970 n y w.0 w.2 w.3) in
      let days = year-months y leap l in
      let most = most-days leap in
      (omega arith, omega arith)

  pub date-parts : (m : ℕ)
      → (1 ≤ m) × (m ≤ 12) × (before_month leap m ≤ n + 719162 - b) × (n + 719162 - b < before_month leap (m + 1))
      → (d : ℕ) → d ≡ before_month leap m → date y m (n + 719162 - b - d + 1) ≡ date_of n
  date-parts m x d f =
      let month : Month leap (n + 719162 - b) m = record { first = x.0; last = x.1; from = x.2; to = x.3 } in
      rw f (date-made n y m (n + 719162 - b) leap (from-1970 n y w.0 w.2 w.3) l (rw e) month)
