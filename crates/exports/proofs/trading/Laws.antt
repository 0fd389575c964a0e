-- `CalendarNumberLaws` holds. Assumes nothing.
use Prim.Native.Nat.{ℕ, ◌≤◌}
use native.Mathlib.Omega.{arith}
use mathlib.Core.Path.{◌≡◌, refl}
use mathlib.Core.List.{List}
use mathlib.Core.Bool.{Bool, true, false, cond}
use lib.ListN.{length, length-append, length-replicate}
use Rattle.ftd.specs.declared.refusal.Refusal.TheVariants.{Sessions, Holiday}
use Rattle.calendar.specs.Calendar.{wrong_sessions, wrong_holidays, padded, step, set_of}
use Rattle.calendar.specs.declared.trading.Calendar.{Calendar}
use Rattle.calendar.proofs.trading.Laws.{few-sessions, few-holidays}
use Rattle.exports.specs.declared.trading.FtdCalendar.{FtdCalendar}
use Rattle.exports.specs.Trading.{calendar_for, calendar_numbers, step_numbers}
use Rattle.exports.specs.Trading.Laws.{CalendarIs, CalendarNumberLaws}
use Rattle.std.specs.Prelude.{Ok, Err}

back : (c : Calendar) → length c.sessions ≡ 24 → length c.holidays ≡ 32 → CalendarIs (calendar_numbers c) c
back c a b = (refl, a, b)

-- A list that the places hold fills them.
all-places : (n : ℕ) (l : List ℕ) → length l ≤ n → length (padded n l) ≡ n
all-places n l few = rw (length-append, length-replicate) (omega arith)

-- What Set leaves has as many places as before.
set_is : (c : Calendar) → length c.sessions ≡ 24 → length c.holidays ≡ 32 → (sessions holidays : List ℕ)
    → CalendarIs (calendar_numbers (set_of c sessions holidays).calendar) (set_of c sessions holidays).calendar
unfolding set_of
set_is c a b sessions holidays = go (wrong_sessions sessions) refl (wrong_holidays holidays) refl
  where
    Is : Bool → Bool → Type 0
    Is x y =
        let after =
        (cond x (step c (Err Sessions))
        (cond y (step c (Err Holiday))
        (step (record { sessions = padded 24 sessions; holidays = padded 32 holidays }) (Ok tt)))).calendar in
        CalendarIs (calendar_numbers after) after

    go : (x : Bool) → x ≡ wrong_sessions sessions → (y : Bool) → y ≡ wrong_holidays holidays → Is x y
    go true p y q = back c a b
    go false p true q = back c a b
    go false p false q =
        back _ (all-places 24 sessions (few-sessions sessions false p refl))
        (all-places 32 holidays (few-holidays holidays false q refl))

set-numbers : (n : FtdCalendar) (c : Calendar) → CalendarIs n c → (sessions holidays : List ℕ)
    → CalendarIs (step_numbers (set_of (calendar_for n) sessions holidays)).calendar
    (set_of c sessions holidays).calendar
set-numbers n c h sessions holidays = rw (← h.0) (set_is (calendar_for n) h.1 h.2 sessions holidays)

pub calendar-number-laws : CalendarNumberLaws
calendar-number-laws = record { back = back; fresh = (refl, refl, refl); set = set-numbers }
