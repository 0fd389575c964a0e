-- The calendar: what holds of it, and its calls test by test. Assumes nothing.
use Prim.Native.Nat.{ℕ, zero, suc, ◌+◌, ◌-◌, ◌/◌, ◌%◌, ◌≤◌}
use native.Mathlib.Omega.{arith}
use native.Mathlib.Nat.{sub-zero, suc-sub-suc}
use mathlib.Core.Path.{◌≡◌, refl, sym, ◌∙◌}
use mathlib.Core.List.{List, ◌++◌}
use mathlib.Core.Bool.{Bool, true, false, not, ◌&&◌, false≢true}
use borrow.Author.Tests.{ltb-false, eqb-true, eqb-false, not-false}
use lib.ListN.{length, drop, replicate}
use lib.Dec.{ltb, eqb}
use Rattle.ftd.specs.declared.refusal.Refusal.TheVariants.{Sessions, Holiday}
use Rattle.calendar.specs.declared.trading.Calendar.{Calendar}
use Rattle.calendar.specs.Days.{date_number}
use Rattle.calendar.specs.Calendar.{wrong_sessions, wrong_holidays, step, set_of, is_trading, next_trading}
use Rattle.calendar.specs.Calendar.{china_day, china_second, in_session, trade_day, ask_of}
use Rattle.calendar.specs.Calendar.Laws.{CalendarLaws}
use Rattle.calendar.proofs.Some.{or-neither}
use Rattle.calendar.proofs.holidays.Near.{next-trading}
use Rattle.calendar.proofs.sessions.One.{one-alone}
use Rattle.std.specs.Prelude.{Some, None, Ok, Err}

pub calendar-laws : CalendarLaws
calendar-laws = record { next = next-trading; one = λ l w s i j h k p q. one-alone l s w i j h k p q }

-- ─── Set ───

drop-zeros : (n k : ℕ) → drop {A = ℕ} k (replicate n 0) ≡ replicate (n - k) 0
drop-zeros n zero = rw (sub-zero n)
drop-zeros zero (suc k) =
    let e : 0 - suc k ≡ 0 = omega arith in
    rw e
drop-zeros (suc n) (suc k) = rw (suc-sub-suc n k) (drop-zeros n k)

module _ (c : Calendar) (ss hs : List ℕ) (a : Bool) (p : a ≡ wrong_sessions ss) where
  pub set-26 : a ≡ true → step c (Err Sessions) ≡ set_of c ss hs
  unfolding set_of
  set-26 e = rw (← p, e)

  module _ (e : a ≡ false) (b : Bool) (q : b ≡ wrong_holidays hs) where
    pub set-27 : b ≡ true → step c (Err Holiday) ≡ set_of c ss hs
    unfolding set_of
    set-27 f = rw (← p, e, ← q, f)

    pub set-done : b ≡ false → (x y : List ℕ) → x ≡ ss ++ drop (length ss) (replicate 24 0)
        → y ≡ hs ++ drop (length hs) (replicate 32 0)
        → step (record { sessions = x; holidays = y }) (Ok tt) ≡ set_of c ss hs
    unfolding set_of
    set-done f x y i j = rw (← p, e, ← q, f, i, j, drop-zeros 24 (length ss), drop-zeros 32 (length hs))

-- At most 8 sessions and 32 holidays where they are taken.
pub few-sessions : (l : List ℕ) (a : Bool) → a ≡ wrong_sessions l → a ≡ false → length l ≤ 24
unfolding wrong_sessions
few-sessions l a p e =
    let whole = or-neither (not (eqb (length l % 3) 0)) _ (sym p ∙ e) in
    let few = or-neither (ltb 8 (length l / 3)) _ whole.1 in
    let x = eqb-true (length l % 3) 0 (not-false _ whole.0) in
    let y = ltb-false 8 (length l / 3) few.0 in
    omega arith

pub few-holidays : (l : List ℕ) (a : Bool) → a ≡ wrong_holidays l → a ≡ false → length l ≤ 32
unfolding wrong_holidays
few-holidays l a p e = ltb-false 32 (length l) (or-neither (ltb 32 (length l)) _ (sym p ∙ e)).0

-- ─── Ask ───

-- A day that trades is at most 49,708: the last two that a time can have are a Saturday and a Sunday.
pub trades-most : (l : List ℕ) (d : ℕ) (a : Bool) → a ≡ is_trading l d → a ≡ true → d ≤ 49710 → d ≤ 49708
unfolding is_trading
trades-most l d a p e h = go (eqb d 49709) refl (eqb d 49710) refl
  where
    left : (b x : Bool) → (b && x) ≡ true → b ≡ true
    left true x k = refl
    left false x k = absurd (false≢true k)

    week : ltb ((d + 3) % 7) 5 ≡ true
    week = left (ltb ((d + 3) % 7) 5) _ (sym p ∙ e)

    go : (b : Bool) → eqb d 49709 ≡ b → (c : Bool) → eqb d 49710 ≡ c → d ≤ 49708
    go true q c r = absurd (false≢true (rw (eqb-true d 49709 q) at week))
    go false q true r = absurd (false≢true (rw (eqb-true d 49710 r) at week))
    go false q false r =
        let x = eqb-false d 49709 q in
        let y = eqb-false d 49710 r in
        omega arith

module _ (c : Calendar) (t d s : ℕ) (e : d ≡ china_day t) (f : s ≡ china_second t)
    (a : Bool) (p : a ≡ is_trading c.holidays d) where
  pub ask-idle : a ≡ false → None ≡ ask_of c t
  unfolding ask_of
  ask-idle w = rw (← e, ← p, w)

  module _ (w : a ≡ true) (b : Bool) (q : b ≡ in_session false c.sessions s) where
    pub ask_out : b ≡ false → None ≡ ask_of c t
    unfolding ask_of
    ask_out v = rw (← e, ← p, w, ← f, ← q, v)

    module _ (v : b ≡ true) (g : Bool) (r : g ≡ in_session true c.sessions s) where
      pub ask-own : g ≡ false → (n : ℕ) → n ≡ date_number d → Some n ≡ ask_of c t
      unfolding ask_of trade_day
      ask-own u n i = rw (← f, ← r, u, ← e, ← p, w, ← q, v, i)

      pub ask-late : g ≡ true → (x : ℕ) → x ≡ next_trading c.holidays d → (n : ℕ) → n ≡ date_number x
          → Some n ≡ ask_of c t
      unfolding ask_of trade_day
      ask-late u x j n i = rw (← f, ← r, u, ← e, ← p, w, ← q, v, i, j)
