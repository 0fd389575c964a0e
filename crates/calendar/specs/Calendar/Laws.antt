-- What holds of the calendar.
use Rattle.std.specs.Prelude.{ℕ, ◌+◌, ◌/◌, ◌<◌, ◌≤◌, ◌≡◌, List, true, false, length}
use Rattle.calendar.specs.Calendar.{is_trading, next_trading, furthest, holds, wrong_sessions}

-- The next trading day: behind the day, at most 47 days on, and the first.
pub record Next (holidays : List ℕ) (day next : ℕ) : Type 0 where
  pub behind : day < next
  pub near : next ≤ day + furthest
  pub trades : is_trading holidays next ≡ true
  pub first : (e : ℕ) → day < e → e < next → is_trading holidays e ≡ false

pub record CalendarLaws : Type 0 where
  -- It is there for any holidays and any day: 32 holidays cannot take the weekdays of 47 days.
  pub next : (holidays : List ℕ) (day : ℕ) → Next holidays day (next_trading holidays day)
  -- Of sessions that Set takes at most one has a second.
  pub one : (l : List ℕ) → wrong_sessions l ≡ false → (second i j : ℕ) → i < length l / 3 → j < length l / 3
      → holds l second i ≡ true → holds l second j ≡ true → i ≡ j
