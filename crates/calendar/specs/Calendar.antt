-- The trading calendar (02, No. 7): up to 8 sessions and 32 holidays, and what a time or a mark is in it.
pub mod Laws
pub mod Examples
pub mod Times
pub mod Taken
use Rattle.std.specs.Prelude.{ℕ, zero, suc, ◌+◌, ◌-◌, ◌*◌, ◌/◌, ◌%◌, List, ◌++◌, Bool, true, false, cond, not, ◌&&◌, ◌||◌, length, get_or, replicate, leb, ltb, eqb}
use Rattle.ftd.specs.Gregorian.{real_date}
use Rattle.ftd.specs.declared.refusal.Refusal.{Refusal}
use Rattle.ftd.specs.declared.refusal.Refusal.TheVariants.{Sessions, Holiday}
use Rattle.calendar.specs.declared.trading.Calendar.{Calendar}
use Rattle.calendar.specs.Types.{SetAnswer}
use Rattle.calendar.specs.declared.trading.SetStep.{SetStep}
use Rattle.calendar.specs.Types.{TradeTime}
use Rattle.calendar.specs.Days.{date_number}
use Rattle.std.specs.Prelude.{Some, None, Ok, Err}

-- Some number below n has a property.
abbrev pub some : ℕ → (ℕ → Bool) → Bool
some zero p = false
some (suc n) p = some n p || p n

-- ─── Sessions ───

abbrev pub most_sessions : ℕ
most_sessions = 8

-- The seconds of a day.
abbrev pub day_seconds : ℕ
day_seconds = 86400

-- Sessions are given and kept as three numbers each: first second, last, and 0, or any other number where it is late.
abbrev pub first_of : List ℕ → ℕ → ℕ
first_of l i = get_or l (3 * i) 0

abbrev pub last_of : List ℕ → ℕ → ℕ
last_of l i = get_or l (3 * i + 1) 0

abbrev pub is_late : List ℕ → ℕ → Bool
is_late l i = not (eqb (get_or l (3 * i + 2) 0) 0)

-- From its first second up to but without its last. An unused place has 0 and 0: no second.
unfoldable pub holds : List ℕ → ℕ → ℕ → Bool
holds l second i = leb (first_of l i) second && ltb second (last_of l i)

-- It has no second, or ends above 86,400.
unfoldable pub wrong_session : List ℕ → ℕ → Bool
wrong_session l i = leb (last_of l i) (first_of l i) || ltb day_seconds (last_of l i)

-- Two have a second in common.
unfoldable pub overlap : List ℕ → ℕ → ℕ → Bool
overlap l i j = ltb (first_of l i) (last_of l j) && ltb (first_of l j) (last_of l i)

-- One overlaps one before it.
abbrev pub overlaps_before : List ℕ → ℕ → Bool
overlaps_before l i = some i (overlap l i)

-- 26: a ninth, or a wrong one, or two that overlap. Numbers that are not whole sessions are none either.
unfoldable pub wrong_sessions : List ℕ → Bool
wrong_sessions l =
    not (eqb (length l % 3) 0)
    || (ltb most_sessions (length l / 3)
    || (some (length l / 3) (wrong_session l) || some (length l / 3) (overlaps_before l)))

-- ─── Holidays ───

abbrev pub most_holidays : ℕ
most_holidays = 32

-- A number YYYYMMDD is a real date.
unfoldable pub real_number : ℕ → Bool
real_number n = real_date (n / 10000) (n / 100 % 100) (n % 100)

abbrev pub unreal : List ℕ → ℕ → Bool
unreal l i = not (real_number (get_or l i 0))

-- 27: a 33rd, or one that is no real date.
unfoldable pub wrong_holidays : List ℕ → Bool
wrong_holidays l = ltb most_holidays (length l) || some (length l) (unreal l)

-- ─── Set ───

-- A list in so many places, the others 0.
abbrev pub padded : ℕ → List ℕ → List ℕ
padded n l = l ++ replicate (n - length l) 0

-- Neither session nor holiday.
abbrev pub fresh_calendar : Calendar
fresh_calendar = record { sessions = replicate 24 0; holidays = replicate 32 0 }

abbrev pub step : Calendar → SetAnswer → SetStep
step c a = record { calendar = c; answer = a }

unfoldable pub set_of : Calendar → List ℕ → List ℕ → SetStep
set_of c sessions holidays =
    cond (wrong_sessions sessions) (step c (Err Sessions))
    (cond (wrong_holidays holidays) (step c (Err Holiday))
    (step (record { sessions = padded 24 sessions; holidays = padded 32 holidays }) (Ok tt)))

-- ─── Trading days ───

-- 0 is Monday; day 0, 1970-01-01, was a Thursday.
abbrev pub weekday : ℕ → ℕ
weekday day = (day + 3) % 7

-- A date stands in one of the holidays' places; an unused one has 0, no date.
abbrev pub stands_at : List ℕ → ℕ → ℕ → Bool
stands_at l date i = eqb (get_or l i 0) date

unfoldable pub is_holiday : List ℕ → ℕ → Bool
is_holiday l date = some most_holidays (stands_at l date)

-- A weekday, Monday to Friday, that is no holiday.
unfoldable pub is_trading : List ℕ → ℕ → Bool
is_trading holidays day = ltb (weekday day) 5 && not (is_holiday holidays (date_number day))

-- The first trading day from a day on, of so many; where none of them is, the day behind them.
abbrev pub trading_from : List ℕ → ℕ → ℕ → ℕ
trading_from holidays zero day = day
trading_from holidays (suc n) day = cond (is_trading holidays day) day (trading_from holidays n (suc day))

-- The next trading day is at most so many days on (CalendarLaws).
abbrev pub furthest : ℕ
furthest = 47

unfoldable pub next_trading : List ℕ → ℕ → ℕ
next_trading holidays day = trading_from holidays furthest (suc day)

-- ─── Ask, and the date of a mark ───

-- China time is UTC plus 8 hours.
abbrev pub china_time : ℕ → ℕ
china_time t = t + 28800

unfoldable pub china_day : ℕ → ℕ
china_day t = china_time t / day_seconds

unfoldable pub china_second : ℕ → ℕ
china_second t = china_time t % day_seconds

-- A session counts for a second: it has it, and is late where only late ones count.
abbrev pub counts : Bool → List ℕ → ℕ → ℕ → Bool
counts only l second i = holds l second i && (not only || is_late l i)

unfoldable pub in_session : Bool → List ℕ → ℕ → Bool
in_session only l second = some most_sessions (counts only l second)

unfoldable pub trade_day : Calendar → ℕ → ℕ
trade_day c t = cond (in_session true c.sessions (china_second t)) (next_trading c.holidays (china_day t)) (china_day t)

unfoldable pub ask_of : Calendar → ℕ → TradeTime
ask_of c t =
    cond (is_trading c.holidays (china_day t) && in_session false c.sessions (china_second t))
    (Some (date_number (trade_day c t))) None

unfoldable pub mark_date : ℕ → ℕ
mark_date mark = date_number (china_day mark)
