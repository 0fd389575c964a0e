-- What Set takes, and what it refuses with 26 and 27 (02, No. 7), said by the numbers given alone.
use Rattle.std.specs.Prelude.{ℕ, ◌+◌, ◌*◌, ◌/◌, ◌%◌, ◌<◌, ◌≤◌, ◌≡◌, ◌↔◌, List, true, length, get_or}
use Rattle.ftd.specs.Gregorian.{real_date}
use Rattle.ftd.specs.declared.refusal.Refusal.TheVariants.{Sessions, Holiday}
use Rattle.calendar.specs.declared.trading.Calendar.{Calendar}
use Rattle.calendar.specs.Calendar.{set_of}
use Rattle.calendar.specs.Calendar.Times.{Has}
use Rattle.std.specs.Prelude.{Ok, Err}

-- Whole sessions, at most 8, each with a second and ended by 86,400, no two with a second in common.
pub record Sound (sessions : List ℕ) : Type 0 where
  pub whole : length sessions % 3 ≡ 0
  pub few : length sessions / 3 ≤ 8
  pub lasts : (i : ℕ) → i < length sessions / 3 → get_or sessions (3 * i) 0 < get_or sessions (3 * i + 1) 0
  pub ends : (i : ℕ) → i < length sessions / 3 → get_or sessions (3 * i + 1) 0 ≤ 86400
  pub alone : (second i j : ℕ) → i < length sessions / 3 → j < length sessions / 3
      → Has sessions second i → Has sessions second j → i ≡ j

-- At most 32 real dates, YYYYMMDD.
pub record Dated (holidays : List ℕ) : Type 0 where
  pub few : length holidays ≤ 32
  pub real : (i : ℕ) → i < length holidays
      → real_date (get_or holidays i 0 / 10000) (get_or holidays i 0 / 100 % 100) (get_or holidays i 0 % 100) ≡ true

pub record SetLaws : Type 0 where
  -- Taken exactly if both are right.
  pub done : (c : Calendar) (sessions holidays : List ℕ)
      → ((set_of c sessions holidays).answer ≡ (Ok tt)) ↔ (Sound sessions × Dated holidays)
  -- 26 exactly if the sessions are not, 27 exactly if the holidays alone are not.
  pub wrong_sessions : (c : Calendar) (sessions holidays : List ℕ)
      → ((set_of c sessions holidays).answer ≡ Err Sessions) ↔ (Sound sessions → ⊥)
  pub wrong_holidays : (c : Calendar) (sessions holidays : List ℕ)
      → ((set_of c sessions holidays).answer ≡ Err Holiday) ↔ (Sound sessions × (Dated holidays → ⊥))
