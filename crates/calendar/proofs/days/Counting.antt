-- Years and months counted off, and the closed forms that the code computes. Assumes nothing.
use Prim.Native.Nat.{ℕ, zero, suc, ◌+◌, ◌-◌, ◌*◌, ◌/◌, ◌%◌, ◌<◌, ◌≤◌}
use native.Mathlib.Omega.{arith}
use native.Mathlib.Nat.{mul-mod_right}
use mathlib.Core.Path.{◌≡◌, refl}
use mathlib.Core.List.{List, [], ◌∷◌}
use mathlib.Core.Bool.{Bool, true, false, cond, ◌&&◌, false≢true}
use borrow.Author.Tests.{lt-ltb, le-ltb, eqb-true, eqb-false}
use lib.ListN.{length, get_or, take}
use lib.Dec.{eqb}
use Rattle.ftd.specs.Gregorian.{leap_year, months_by, months}
use Rattle.calendar.specs.Days.{date, total, year_days, month_in, year_in, years_days}
use Rattle.calendar.specs.Days.Helpers.{before_year, before_month}

-- ─── Tests of all numbers below a number ───

abbrev pub below : ℕ → (ℕ → Bool) → Bool
below zero p = true
below (suc n) p = p n && below n p

pub below_at : (n : ℕ) (p : ℕ → Bool) → below n p ≡ true → (i : ℕ) → i < n → p i ≡ true
below_at zero p h i k = absurd (omega arith)
below_at (suc n) p h i k = go (p n) refl h (eqb i n) refl (λ h k. below_at n p h i k)
  where
    go : (a : Bool) → p n ≡ a → (a && below n p) ≡ true → (b : Bool) → eqb i n ≡ b
        → (below n p ≡ true → i < n → p i ≡ true) → p i ≡ true
    go false e h b q rest = absurd (false≢true h)
    go true e h true q rest = rw (eqb-true i n q) e
    go true e h false q rest =
        let d = eqb-false i n q in
        rest h (omega arith)

-- ─── Months ───

pub total-more : (l : List ℕ) (i : ℕ) → i < length l → total (take (suc i) l) ≡ total (take i l) + get_or l i 0
total-more [] i h = absurd (omega arith)
total-more (x ∷ l) zero h = omega arith
total-more (x ∷ l) (suc i) h = let e = total-more l i (omega arith) in omega (arith, e)

-- So many days behind the first of a month, i months on.
pub month-at : (y k : ℕ) (l : List ℕ) (i r : ℕ) → i < length l → r < get_or l i 0
    → month_in y k l (total (take i l) + r) ≡ date y (k + i) (r + 1)
month-at y k [] i r h g = absurd (omega arith)
month-at y k (x ∷ l) zero r h g =
    let e : 0 + r ≡ r = omega arith in
    let f : k + 0 ≡ k = omega arith in
    rw (e, f, lt-ltb r x g)
month-at y k (x ∷ l) (suc i) r h g =
    let n = x + total (take i l) + r in
    let e : n - x ≡ total (take i l) + r = omega arith in
    let f : k + suc i ≡ suc k + i = omega arith in
    rw (le-ltb n x (omega arith), e, f) (month-at y (suc k) l i r (omega arith) g)

same-months : Bool → ℕ → Bool
same-months leap i = eqb (total (take i (months_by leap))) (before_month leap (suc i))

-- The closed form, computed for all twelve months and the year.
pub before-month : (leap : Bool) (i : ℕ) → i ≤ 12 → total (take i (months_by leap)) ≡ before_month leap (suc i)
unfolding same-months before_month
before-month true i h = eqb-true _ _ (below_at 13 (same-months true) refl i (omega arith))
before-month false i h = eqb-true _ _ (below_at 13 (same-months false) refl i (omega arith))

-- ─── Years ───

year-long : (y : ℕ) (leap : Bool) → leap_year y ≡ leap → year_days y ≡ cond leap 366 365
unfolding year_days months
year-long y true e = rw e
year-long y false e = rw e

pub year-some : (y : ℕ) → 1 ≤ year_days y
year-some y = go (leap_year y) refl
  where
    go : (leap : Bool) → leap_year y ≡ leap → 1 ≤ year_days y
    go true e = omega (arith, year-long y true e)
    go false e = omega (arith, year-long y false e)

by-four : (y q : ℕ) → y ≡ 4 * q → y % 4 ≡ 0
by-four y q e = rw e (mul-mod_right 4 q)

some : (x : ℕ) → eqb x 0 ≡ false → 1 ≤ x
some x e = let d = eqb-false x 0 e in omega arith

-- The closed form grows by a year's days.
pub year-on : (y : ℕ) → 1 ≤ y → before_year y + year_days y ≡ before_year (suc y)
unfolding leap_year
year-on y h = go (eqb (y % 4) 0) refl (eqb (y % 100) 0) refl (eqb (y % 400) 0) refl
  where
    grows : (a b c a' b' c' t : ℕ) → (y - 1) / 4 ≡ a → (y - 1) / 100 ≡ b → (y - 1) / 400 ≡ c
        → y / 4 ≡ a' → y / 100 ≡ b' → y / 400 ≡ c' → year_days y ≡ t
        → (y - 1) * 365 + a - b + c + t ≡ y * 365 + a' - b' + c' → before_year y + year_days y ≡ before_year (suc y)
    grows a b c a' b' c' t p q r p' q' r' w e =
        let z : suc y - 1 ≡ y = omega arith in
        rw (z, p, q, r, p', q', r', w) e

    go : (a : Bool) → eqb (y % 4) 0 ≡ a → (b : Bool) → eqb (y % 100) 0 ≡ b → (d : Bool) → eqb (y % 400) 0 ≡ d
        → before_year y + year_days y ≡ before_year (suc y)
    go true p false q true r =
        let a = some (y % 100) q in
        let c = eqb-true (y % 400) 0 r in
        absurd (omega arith)
    go true p false q false r =
        let a = eqb-true (y % 4) 0 p in
        let b = some (y % 100) q in
        let c = some (y % 400) r in
        let l = year-long y true (rw (p, q)) in
        grows _ _ _ ((y - 1) / 4 + 1) ((y - 1) / 100) ((y - 1) / 400) _ refl refl refl
        (omega arith) (omega arith) (omega arith) l (omega arith)
    go true p true q true r =
        let a = eqb-true (y % 4) 0 p in
        let b = eqb-true (y % 100) 0 q in
        let c = eqb-true (y % 400) 0 r in
        let l = year-long y true (rw (p, q, r)) in
        grows _ _ _ ((y - 1) / 4 + 1) ((y - 1) / 100 + 1) ((y - 1) / 400 + 1) _ refl refl refl
        (omega arith) (omega arith) (omega arith) l (omega arith)
    go true p true q false r =
        let a = eqb-true (y % 4) 0 p in
        let b = eqb-true (y % 100) 0 q in
        let c = some (y % 400) r in
        let l = year-long y false (rw (p, q, r)) in
        grows _ _ _ ((y - 1) / 4 + 1) ((y - 1) / 100 + 1) ((y - 1) / 400) _ refl refl refl
        (omega arith) (omega arith) (omega arith) l (omega arith)
    go false p true q d r =
        let b = eqb-true (y % 100) 0 q in
        absurd (eqb-false (y % 4) 0 p (by-four y (25 * (y / 100)) (omega arith)))
    go false p false q true r =
        let c = eqb-true (y % 400) 0 r in
        absurd (eqb-false (y % 4) 0 p (by-four y (100 * (y / 400)) (omega arith)))
    go false p false q false r =
        let a = some (y % 4) p in
        let b = some (y % 100) q in
        let c = some (y % 400) r in
        let l = year-long y false (rw p) in
        grows _ _ _ ((y - 1) / 4) ((y - 1) / 100) ((y - 1) / 400) _ refl refl refl
        (omega arith) (omega arith) (omega arith) l (omega arith)

pub years-on : (y n : ℕ) → 1 ≤ y → before_year y + years_days y n ≡ before_year (y + n)
years-on y zero h =
    let e : y + 0 ≡ y = omega arith in
    rw e (omega arith)
years-on y (suc n) h =
    let e : y + suc n ≡ suc y + n = omega arith in
    rw e (omega (arith, year-on y h, years-on (suc y) n (omega arith)))

pub years-many : (y n : ℕ) → n ≤ years_days y n
years-many y zero = omega arith
years-many y (suc n) = omega (arith, year-some y, years-many (suc y) n)

-- So many days behind the first of a year, n years on.
pub year-at : (most y n r : ℕ) → n ≤ most → r < year_days (y + n)
    → year_in most y (years_days y n + r) ≡ month_in (y + n) 1 (months (y + n)) r
year-at zero y zero r h g =
    let e : 0 + r ≡ r = omega arith in
    let f : y + 0 ≡ y = omega arith in
    rw (e, f)
year-at zero y (suc n) r h g = absurd (omega arith)
year-at (suc most) y zero r h g =
    let e : 0 + r ≡ r = omega arith in
    let f : y + 0 ≡ y = omega arith in
    rw (e, f, lt-ltb r (year_days y) (rw f at g))
year-at (suc most) y (suc n) r h g =
    let t = year_days y + years_days (suc y) n + r in
    let e : t - year_days y ≡ years_days (suc y) n + r = omega arith in
    let f : y + suc n ≡ suc y + n = omega arith in
    rw (le-ltb t (year_days y) (omega arith), e, f) (year-at most (suc y) n r (omega arith) (rw f at g))
