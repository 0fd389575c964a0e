-- Worked examples of the trading calendar (02, No. 7) as one table: what the definitions answer and what the paper
-- says, side by side as lists of numbers.
use Rattle.std.specs.Prelude.{ℕ, List, [], ◌∷◌, ◌++◌, map, Bool, true, false, ◌&&◌, replicate, eqb, T}
use Rattle.ftd.specs.Refusal.{number_of}
use Rattle.calendar.specs.declared.trading.Calendar.{Calendar}
use Rattle.calendar.specs.Types.{SetAnswer}
use Rattle.calendar.specs.Types.{TradeTime}
use Rattle.calendar.specs.Calendar.{fresh_calendar, set_of, ask_of, mark_date}
use Rattle.std.specs.Prelude.{Some, None, Ok, Err}

-- ─── Answers in numbers ───

-- Set: 0, or the refusal's number.
abbrev pub set_number : SetAnswer → ℕ
set_number (Ok tt) = 0
set_number (Err r) = number_of r

-- Ask: 0 outside, or the trade date.
abbrev pub time_number : TradeTime → ℕ
time_number None = 0
time_number (Some date) = date

abbrev pub sets : List ℕ → List ℕ → ℕ
sets sessions holidays = set_number (set_of fresh_calendar sessions holidays).answer

abbrev pub asks : Calendar → List ℕ → List ℕ
asks c times = map (λ t. time_number (ask_of c t)) times

abbrev pub with : List ℕ → List ℕ → Calendar
with sessions holidays = (set_of fresh_calendar sessions holidays).calendar

-- ─── The calendars ───

-- A late evening and three by day; the spring festival of 2024 and two more.
abbrev pub evening_and_day : List ℕ
evening_and_day = 75600 ∷ 86400 ∷ 1 ∷ 32400 ∷ 36900 ∷ 0 ∷ 37800 ∷ 41400 ∷ 0 ∷ 48600 ∷ 54000 ∷ 0 ∷ []

abbrev pub festival : List ℕ
festival =
    20240101 ∷ 20240212 ∷ 20240213 ∷ 20240214 ∷ 20240215 ∷ 20240216 ∷ 20240404 ∷ 20240405 ∷ []

-- All weekdays from 20240104 to 20240216: 32.
abbrev pub longest : List ℕ
longest =
    20240104 ∷ 20240105 ∷ 20240108 ∷ 20240109 ∷ 20240110 ∷ 20240111 ∷ 20240112 ∷ 20240115 ∷ 20240116 ∷ 20240117
    ∷ 20240118 ∷ 20240119 ∷ 20240122 ∷ 20240123 ∷ 20240124 ∷ 20240125 ∷ 20240126 ∷ 20240129 ∷ 20240130 ∷ 20240131
    ∷ 20240201 ∷ 20240202 ∷ 20240205 ∷ 20240206 ∷ 20240207 ∷ 20240208 ∷ 20240209 ∷ 20240212 ∷ 20240213 ∷ 20240214
    ∷ 20240215 ∷ 20240216 ∷ []

-- Eight sessions of a day, the last one late, and a ninth behind them.
abbrev pub eight : List ℕ
eight =
    30000 ∷ 30500 ∷ 0 ∷ 31000 ∷ 31500 ∷ 0 ∷ 32000 ∷ 32500 ∷ 0 ∷ 33000 ∷ 33500 ∷ 0 ∷ 34000 ∷ 34500 ∷ 0 ∷ 35000 ∷ 35500 ∷ 0
    ∷ 36000 ∷ 36500 ∷ 0 ∷ 37000 ∷ 37500 ∷ 1 ∷ []

abbrev pub nine : List ℕ
nine = eight ++ (38000 ∷ 38500 ∷ 0 ∷ [])

-- A calendar after one Set more.
abbrev pub then : Calendar → List ℕ → List ℕ → Calendar
then c sessions holidays = (set_of c sessions holidays).calendar

-- ─── The table ───

pub record ExampleRow : Type 0 where
  pub answers : List ℕ
  pub paper : List ℕ

abbrev pub row : List ℕ → List ℕ → ExampleRow
row a p = record { answers = a; paper = p }

unfoldable pub examples : List ExampleRow
examples =
    -- Set.
    row (sets [] [] ∷ sets (100 ∷ 200 ∷ 0 ∷ 0 ∷ 100 ∷ 0 ∷ []) [] ∷ sets (86399 ∷ 86400 ∷ 0 ∷ []) [] ∷ sets [] longest
    ∷ sets [] (replicate 32 20240101) ∷ [])
    (0 ∷ 0 ∷ 0 ∷ 0 ∷ 0 ∷ [])
    ∷ row (sets (0 ∷ 100 ∷ 0 ∷ 99 ∷ 200 ∷ 0 ∷ []) [] ∷ sets (100 ∷ 200 ∷ 0 ∷ 0 ∷ 101 ∷ 1 ∷ []) []
    ∷ sets (0 ∷ 100 ∷ 0 ∷ 200 ∷ 300 ∷ 0 ∷ 50 ∷ 150 ∷ 0 ∷ []) [] ∷ sets (100 ∷ 100 ∷ 0 ∷ []) []
    ∷ sets (86399 ∷ 86401 ∷ 0 ∷ []) [] ∷ sets (75600 ∷ 9000 ∷ 1 ∷ []) [] ∷ [])
    (26 ∷ 26 ∷ 26 ∷ 26 ∷ 26 ∷ 26 ∷ [])
    ∷ row (sets [] (replicate 33 20240101) ∷ sets [] (20230229 ∷ []) ∷ sets [] (100000101 ∷ []) ∷ [])
    (27 ∷ 27 ∷ 27 ∷ [])
    ∷ row (sets (100 ∷ 100 ∷ 0 ∷ []) (20230229 ∷ []) ∷ []) (26 ∷ [])
    -- Eight sessions are taken, nine are not.
    ∷ row (sets eight [] ∷ sets nine [] ∷ sets (eight ++ eight) [] ∷ []) (0 ∷ 26 ∷ 26 ∷ [])
    -- Each of the eight counts: its first second, and no longer its last; the eighth is late.
    ∷ row (asks (with eight []) (1200 ∷ 2200 ∷ 3200 ∷ 4200 ∷ 5200 ∷ 6200 ∷ 7200 ∷ 8200 ∷ []))
    (19700101 ∷ 19700101 ∷ 19700101 ∷ 19700101 ∷ 19700101 ∷ 19700101 ∷ 19700101 ∷ 19700102 ∷ [])
    ∷ row (asks (with eight []) (8199 ∷ 8699 ∷ 8700 ∷ 9200 ∷ [])) (0 ∷ 19700102 ∷ 0 ∷ 0 ∷ [])
    -- A refused Set, by 26 and by 27: the sessions and holidays that were set still count, and only they.
    ∷ row (asks (then (with evening_and_day festival) nine []) (1707397200 ∷ 1707483600 ∷ 1707699600 ∷ 1708308900 ∷ []))
    (20240209 ∷ 20240219 ∷ 0 ∷ 0 ∷ [])
    ∷ row (asks (then (with evening_and_day festival) eight (20230229 ∷ []))
    (1707397200 ∷ 1707483600 ∷ 1707699600 ∷ 1708308900 ∷ []))
    (20240209 ∷ 20240219 ∷ 0 ∷ 0 ∷ [])
    -- A Set that is taken replaces both.
    ∷ row (asks (then (with evening_and_day festival) (32400 ∷ 36900 ∷ 0 ∷ []) []) (1707397200 ∷ 1707699600 ∷ []))
    (0 ∷ 20240212 ∷ [])
    -- Ask: Thursday and Friday evening before the festival, its days, Sunday, the morning behind it.
    ∷ row (asks (with evening_and_day festival) (1707397200 ∷ 1707397199 ∷ 1707483600 ∷ 1707494399 ∷ 1707494400 ∷ []))
    (20240209 ∷ 0 ∷ 20240219 ∷ 20240219 ∷ 0 ∷ [])
    ∷ row (asks (with evening_and_day festival) (1707699600 ∷ 1708088400 ∷ 1708261200 ∷ [])) (0 ∷ 0 ∷ 0 ∷ [])
    ∷ row (asks (with evening_and_day festival) (1708304399 ∷ 1708304400 ∷ 1708308899 ∷ 1708308900 ∷ []))
    (0 ∷ 20240219 ∷ 20240219 ∷ 0 ∷ [])
    ∷ row (asks (with evening_and_day festival) (0 ∷ 3600 ∷ 4294818000 ∷ 4294967295 ∷ []))
    (0 ∷ 19700101 ∷ 21060208 ∷ 0 ∷ [])
    -- 47 days on.
    ∷ row (asks (with (0 ∷ 86400 ∷ 1 ∷ []) longest) (1704254400 ∷ [])) (20240219 ∷ [])
    -- The sum needs more than 32 bits.
    ∷ row (asks (with (0 ∷ 25200 ∷ 0 ∷ []) []) (4294940399 ∷ [])) (0 ∷ [])
    -- Marks.
    ∷ row (map mark_date (0 ∷ 57599 ∷ 57600 ∷ 951753600 ∷ 951840000 ∷ 1709136000 ∷ 4107513600 ∷ 4294967295 ∷ []))
    (19700101 ∷ 19700101 ∷ 19700102 ∷ 20000229 ∷ 20000301 ∷ 20240229 ∷ 21000301 ∷ 21060207 ∷ [])
    ∷ []

abbrev pub same : List ℕ → List ℕ → Bool
same [] [] = true
same [] (y ∷ ys) = false
same (x ∷ xs) [] = false
same (x ∷ xs) (y ∷ ys) = eqb x y && same xs ys

abbrev pub all_same : List ExampleRow → Bool
all_same [] = true
all_same (r ∷ rs) = same r.answers r.paper && all_same rs

-- Every row's answers are the paper's.
abbrev pub CalendarExamples : Type 0
CalendarExamples = T (all_same examples)
