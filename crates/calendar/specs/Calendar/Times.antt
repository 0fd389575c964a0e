-- Which times are inside a session, and of which trade date (02, No. 7), said by the numbers that were set alone.
use Rattle.std.specs.Prelude.{ℕ, ◌+◌, ◌*◌, ◌/◌, ◌%◌, ◌<◌, ◌≤◌, ◌≡◌, List, length, get_or}
use Rattle.calendar.specs.declared.trading.Calendar.{Calendar}
use Rattle.calendar.specs.Days.{date_number}
use Rattle.calendar.specs.Calendar.{set_of, ask_of, mark_date}
use Rattle.std.specs.Prelude.{Some, Ok}

-- The day of a time in China, UTC plus 8 hours, and the second of that day.
abbrev pub day_at : ℕ → ℕ
day_at t = (t + 28800) / 86400

abbrev pub second_at : ℕ → ℕ
second_at t = (t + 28800) % 86400

-- A weekday, Monday to Friday, whose date is none of the first n of a list. Day 0, 1970-01-01, was a Thursday.
pub record Trades (holidays : List ℕ) (n day : ℕ) : Type 0 where
  pub weekday : (day + 3) % 7 < 5
  pub free : (i : ℕ) → i < n → get_or holidays i 0 ≡ date_number day → ⊥

-- The first such day behind a day.
pub record Follows (holidays : List ℕ) (n day next : ℕ) : Type 0 where
  pub behind : day < next
  pub trades : Trades holidays n next
  pub first : (e : ℕ) → day < e → e < next → Trades holidays n e → ⊥

-- Session i of a list, three numbers each, has a second: from its first up to but without its last.
pub record Has (sessions : List ℕ) (second i : ℕ) : Type 0 where
  pub from : get_or sessions (3 * i) 0 ≤ second
  pub before : second < get_or sessions (3 * i + 1) 0

-- Its third number: 0, or any other where it is late.
abbrev pub lateness : List ℕ → ℕ → ℕ
lateness sessions i = get_or sessions (3 * i + 2) 0

-- A calendar answers by the first m sessions of a list and the first n holidays of another.
pub record Answers (c : Calendar) (sessions : List ℕ) (m : ℕ) (holidays : List ℕ) (n : ℕ) : Type 0 where
  -- A time is inside exactly if its day trades and one of the sessions has its second.
  pub inside : (t d : ℕ) → ask_of c t ≡ Some d
      → Trades holidays n (day_at t) × ((i : ℕ) × (i < m) × Has sessions (second_at t) i)
  pub found : (t i : ℕ) → Trades holidays n (day_at t) → i < m → Has sessions (second_at t) i
      → (d : ℕ) × (ask_of c t ≡ Some d)
  -- In a late session its date is that of the next day that trades.
  pub late : (t d i : ℕ) → ask_of c t ≡ Some d → i < m → Has sessions (second_at t) i → 0 < lateness sessions i
      → (next : ℕ) × Follows holidays n (day_at t) next × (d ≡ date_number next)
  -- In no late one, the day's own.
  pub own : (t d : ℕ) → ask_of c t ≡ Some d
      → ((i : ℕ) → i < m → Has sessions (second_at t) i → lateness sessions i ≡ 0)
      → d ≡ date_number (day_at t)

pub record InsideLaws : Type 0 where
  -- Any calendar answers by its 8 sessions and 32 holidays.
  pub any : (c : Calendar) → Answers c c.sessions 8 c.holidays 32
  -- One that Set has set, by the sessions and holidays given: by all of them, and nothing else.
  pub given : (c : Calendar) (sessions holidays : List ℕ) → (set_of c sessions holidays).answer ≡ (Ok tt)
      → Answers (set_of c sessions holidays).calendar sessions (length sessions / 3) holidays (length holidays)
  -- Of these at most one has a second, so a time's session is late or is not.
  pub alone : (c : Calendar) (sessions holidays : List ℕ) → (set_of c sessions holidays).answer ≡ (Ok tt)
      → (second i j : ℕ) → i < length sessions / 3 → j < length sessions / 3
      → Has sessions second i → Has sessions second j → i ≡ j
  -- A mark, taken as a time, has the date of its day.
  pub mark : (t : ℕ) → mark_date t ≡ date_number (day_at t)
