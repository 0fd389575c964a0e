-- The trading calendar as the numbers that C and Rust get and give (include/ftd.h): its state, and what each call
-- answers.
pub mod Laws
use Rattle.std.specs.Prelude.{ℕ}
use Rattle.calendar.specs.declared.trading.Calendar.{Calendar}
use Rattle.calendar.specs.Types.{SetAnswer}
use Rattle.calendar.specs.declared.trading.SetStep.{SetStep}
use Rattle.calendar.specs.Types.{TradeTime}
use Rattle.exports.specs.Numbers.{refusal_of}
use Rattle.exports.specs.declared.trading.FtdCalendar.{FtdCalendar}
use Rattle.exports.specs.declared.trading.FtdCalendarStep.{FtdCalendarStep}
use Rattle.exports.specs.declared.trading.FtdTradeTime.{FtdTradeTime}
use Rattle.std.specs.Prelude.{Some, None}

-- The calendar that numbers say, and the numbers of a calendar.
abbrev pub calendar_for : FtdCalendar → Calendar
calendar_for n = record { sessions = n.sessions; holidays = n.holidays }

abbrev pub calendar_numbers : Calendar → FtdCalendar
calendar_numbers c = record { sessions = c.sessions; holidays = c.holidays }

-- Set: 0, or the number of the refusal.
abbrev pub set_number : SetAnswer → ℕ
set_number x = refusal_of x

-- What Set leaves.
abbrev pub step_numbers : SetStep → FtdCalendarStep
step_numbers x = record { calendar = calendar_numbers x.calendar; refusal = set_number x.answer }

-- A time: 1 and its trade date YYYYMMDD, or outside, 0 and 0.
abbrev pub trade_time_numbers : TradeTime → FtdTradeTime
trade_time_numbers None = record { date = 0; inside = 0 }
trade_time_numbers (Some d) = record { date = d; inside = 1 }
