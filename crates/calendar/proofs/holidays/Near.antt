-- The next trading day is at most 47 days away: 47 days in a row have 33 weekdays at least, 32 holidays take 32 at
-- most, and no two days have one date. Assumes nothing.
use Prim.Native.Nat.{ℕ, zero, suc, ◌+◌, ◌-◌, ◌%◌, ◌<◌, ◌≤◌}
use native.Mathlib.Omega.{arith}
use native.Mathlib.Nat.{mod-mod, suc-mod}
use mathlib.Core.Path.{◌≡◌, refl, sym, ap, ◌∙◌}
use mathlib.Core.List.{List}
use mathlib.Core.Bool.{Bool, true, false, cond, not, ◌||◌, false≢true}
use borrow.Author.Tests.{eqb-true, eqb-false, ne_eqb, leb-true, ltb-true, ltb-false}
use lib.ListN.{get_or}
use lib.Dec.{eqb, ltb, leb}
use Rattle.calendar.specs.Days.{date_number}
use Rattle.calendar.specs.Calendar.{some, weekday, stands_at, is_holiday, is_trading, trading_from, next_trading}
use Rattle.calendar.specs.Calendar.{furthest}
use Rattle.calendar.specs.Calendar.Laws.{Next}
use Rattle.calendar.proofs.days.Counting.{below_at}
use Rattle.calendar.proofs.days.Laws.{day-laws}

-- ─── Counting days with a property ───

abbrev one : Bool → ℕ
one b = cond b 1 0

-- How many of n days from a day on have it.
abbrev many : (ℕ → Bool) → ℕ → ℕ → ℕ
many p a zero = 0
many p a (suc n) = one (p a) + many p (suc a) n

-- What follows from a property is had at least as often.
many-up : (p q : ℕ → Bool) (a n : ℕ) → ((e : ℕ) → a ≤ e → e < a + n → p e ≡ true → q e ≡ true) → many p a n ≤ many q a n
many-up p q a zero h = omega arith
many-up p q a (suc n) h =
    let rest = many-up p q (suc a) n (λ e f g. h e (omega arith) (omega arith)) in
    let here = up (p a) (q a) (h a (omega arith) (omega arith)) in
    omega arith
  where
    up : (x y : Bool) → (x ≡ true → y ≡ true) → one x ≤ one y
    up true true k = omega arith
    up true false k = absurd (false≢true (k refl))
    up false true k = omega arith
    up false false k = omega arith

-- One of two properties is had at most as often as both together.
many-or : (p q : ℕ → Bool) (a n : ℕ) → many (λ e. p e || q e) a n ≤ many p a n + many q a n
many-or p q a zero = omega arith
many-or p q a (suc n) =
    let rest = many-or p q (suc a) n in
    let here = either (p a) (q a) in
    omega arith
  where
    either : (x y : Bool) → one (x || y) ≤ one x + one y
    either true y = omega arith
    either false y = omega arith

many-none : (p : ℕ → Bool) (a n : ℕ) → ((e : ℕ) → a ≤ e → p e ≡ false) → many p a n ≡ 0
many-none p a zero h = refl
many-none p a (suc n) h =
    let rest = many-none p (suc a) n (λ e f. h e (omega arith)) in
    rw (h a (omega arith)) (omega arith)

-- ─── One date falls on one day ───

abbrev on-date : ℕ → ℕ → Bool
on-date x e = eqb x (date_number e)

other-day : (x a : ℕ) → on-date x a ≡ true → (e : ℕ) → suc a ≤ e → on-date x e ≡ false
other-day x a w e f = ne_eqb x (date_number e) (λ k. apart k)
  where
    apart : x ≡ date_number e → ⊥
    apart k =
        let s = day-laws.differs a e (sym (eqb-true x (date_number a) w) ∙ k) in
        omega arith

once : (x a n : ℕ) → many (on-date x) a n ≤ 1
once x a zero = omega arith
once x a (suc n) = go (on-date x a) refl (once x (suc a) n)
  where
    go : (b : Bool) → on-date x a ≡ b → many (on-date x) (suc a) n ≤ 1 → one b + many (on-date x) (suc a) n ≤ 1
    go true w r = let z = many-none (on-date x) (suc a) n (other-day x a w) in omega arith
    go false w r = omega arith

-- So many holidays fall on so many days at most.
abbrev taken : List ℕ → ℕ → ℕ → Bool
taken l k e = some k (stands_at l (date_number e))

few-taken : (l : List ℕ) (k a n : ℕ) → many (taken l k) a n ≤ k
few-taken l zero a n = let z = many-none (taken l zero) a n (λ e f. refl) in omega arith
few-taken l (suc k) a n =
    let before = few-taken l k a n in
    let both = many-or (taken l k) (on-date (get_or l k 0)) a n in
    let last = once (get_or l k 0) a n in
    omega arith

-- ─── Weekdays ───

abbrev is-weekday : ℕ → Bool
is-weekday e = ltb (weekday e) 5

-- The same of a number that leaves the same remainder.
abbrev working : ℕ → Bool
working e = ltb (e % 7) 5

same-week : (a r n : ℕ) → (a + 3) % 7 ≡ r % 7 → many is-weekday a n ≡ many working r n
same-week a r zero h = refl
same-week a r (suc n) h =
    let e : suc a + 3 ≡ suc (a + 3) = omega arith in
    let next : (suc a + 3) % 7 ≡ suc r % 7 =
    rw e (suc-mod (a + 3) 7 ∙ ap (λ (x : ℕ). suc x % 7) h ∙ sym (suc-mod r 7)) in
    rw (h, same-week (suc a) (suc r) n next)

-- Computed for the seven days of the week.
enough : ℕ → Bool
enough r = leb 33 (many working r furthest)

weekdays : (a : ℕ) → 33 ≤ many is-weekday a furthest
unfolding enough
weekdays a =
    let r = (a + 3) % 7 in
    let seven : r < 7 = omega arith in
    let all = leb-true 33 (many working r furthest) (below_at 7 enough refl r seven) in
    rw (same-week a r furthest (sym (mod-mod (a + 3) 7))) all

-- ─── One of 47 days trades ───

too_many : (x y : ℕ) → 33 ≤ x → x ≤ y → y ≤ 32 → ⊥
too_many x y h k m = omega arith

module _ (l : List ℕ) where
  -- A weekday that does not trade is a holiday.
  idle : (e : ℕ) → is_trading l e ≡ false → is-weekday e ≡ true → taken l 32 e ≡ true
  unfolding is_trading is_holiday
  idle e h w = go (taken l 32 e) (rw w at h)
    where
      go : (b : Bool) → not b ≡ false → b ≡ true
      go true k = refl
      go false k = absurd (false≢true (sym k))

  pub never-idle : (a : ℕ) → ((e : ℕ) → a ≤ e → e < a + furthest → is_trading l e ≡ false) → ⊥
  never-idle a h =
      too_many _ _ (weekdays a) (many-up is-weekday (taken l 32) a furthest (λ e f g w. idle e (h e f g) w))
      (few-taken l 32 a furthest)

  -- ─── The search ───

  from-range : (n a : ℕ) → (a ≤ trading_from l n a) × (trading_from l n a ≤ a + n)
  from-range zero a = (omega arith, omega arith)
  from-range (suc n) a = go (is_trading l a) (from-range n (suc a))
    where
      go : (b : Bool) → (suc a ≤ trading_from l n (suc a)) × (trading_from l n (suc a) ≤ suc a + n)
          → (a ≤ cond b a (trading_from l n (suc a))) × (cond b a (trading_from l n (suc a)) ≤ a + suc n)
      go true r = (omega arith, omega arith)
      go false r = (omega (arith, r.0), omega (arith, r.1))

  from_found : (n a : ℕ) → trading_from l n a < a + n → is_trading l (trading_from l n a) ≡ true
  from_found zero a h = absurd (omega arith)
  from_found (suc n) a h = go (is_trading l a) refl h (λ k. from_found n (suc a) k)
    where
      go : (b : Bool) → is_trading l a ≡ b → cond b a (trading_from l n (suc a)) < a + suc n
          → (trading_from l n (suc a) < suc a + n → is_trading l (trading_from l n (suc a)) ≡ true)
          → is_trading l (cond b a (trading_from l n (suc a))) ≡ true
      go true w h rest = w
      go false w h rest = rest (omega arith)

  from_first : (n a e : ℕ) → a ≤ e → e < trading_from l n a → is_trading l e ≡ false
  from_first zero a e f g = absurd (omega arith)
  from_first (suc n) a e f g = go (is_trading l a) refl g (eqb e a) refl (λ f g. from_first n (suc a) e f g)
    where
      go : (b : Bool) → is_trading l a ≡ b → e < cond b a (trading_from l n (suc a)) → (d : Bool) → eqb e a ≡ d
          → (suc a ≤ e → e < trading_from l n (suc a) → is_trading l e ≡ false) → is_trading l e ≡ false
      go true w g d q rest = absurd (omega arith)
      go false w g true q rest = rw (eqb-true e a q) w
      go false w g false q rest =
          let z = eqb-false e a q in
          rest (omega arith) g

  pub next-trading : (day : ℕ) → Next l day (next_trading l day)
  unfolding next_trading
  next-trading day = go (ltb (trading_from l furthest (suc day)) (suc day + furthest)) refl
    where
      go : (b : Bool) → ltb (trading_from l furthest (suc day)) (suc day + furthest) ≡ b
          → Next l day (trading_from l furthest (suc day))
      go true w =
          let h = ltb-true (trading_from l furthest (suc day)) (suc day + furthest) w in
          record {
            behind = omega (arith, (from-range furthest (suc day)).0);
            near = omega (arith, h);
            trades = from_found furthest (suc day) h;
            first = λ e f g. from_first furthest (suc day) e (omega arith) g;
          }
      go false w =
          let h = ltb-false (trading_from l furthest (suc day)) (suc day + furthest) w in
          absurd (never-idle (suc day) (λ e f g. from_first furthest (suc day) e f (omega arith)))

  -- ─── The search, turn by turn ───

  module _ (day next : ℕ) (w : trading_from l (day + 48 - next) next ≡ next_trading l day)
      (f : day + 1 ≤ next) (g : next ≤ day + 47) (a : Bool) (p : a ≡ is_trading l next) where
    turn : trading_from l (day + 48 - next) next ≡ cond a next (trading_from l (day + 48 - (next + 1)) (next + 1))
    turn =
        let e : day + 48 - next ≡ suc (day + 48 - (next + 1)) = omega arith in
        let s : next + 1 ≡ suc next = omega arith in
        rw (e, s, p)

    pub search-turn : a ≡ false
        → (trading_from l (day + 48 - (next + 1)) (next + 1) ≡ next_trading l day) × (next + 1 ≤ day + 47)
    search-turn e =
        let v : trading_from l (day + 48 - (next + 1)) (next + 1) ≡ next_trading l day =
        sym (ap (λ (b : Bool). cond b next (trading_from l (day + 48 - (next + 1)) (next + 1))) e) ∙ sym turn ∙ w in
        let n = next-trading day in
        let near = n.near in
        let r = (from-range (day + 48 - (next + 1)) (next + 1)).0 in
        (v, omega arith)

  pub search-start : (day : ℕ) → trading_from l (day + 48 - (day + 1)) (day + 1) ≡ next_trading l day
  unfolding next_trading
  search-start day =
      let e : day + 48 - (day + 1) ≡ 47 = omega arith in
      let s : day + 1 ≡ suc day = omega arith in
      rw (e, s)
