use Rattle.ftd.specs.Gregorian.{leap_year, months, month_days, real_date}
use Rattle.calendar.specs.Days.{year_days, date_of, date_number}
use Rattle.calendar.specs.Calendar.{holds, wrong_session, overlap, wrong_sessions, real_number, wrong_holidays, set_of}
use Rattle.calendar.specs.Calendar.{is_holiday, is_trading, next_trading, china_day, china_second, in_session, trade_day}
use Rattle.calendar.specs.Calendar.{ask_of, mark_date}
use Rattle.calendar.specs.Calendar.Examples.{examples}
use Rattle.calendar.proofs.trading.keeps_calendar_examples.Goals as goal

pub returns : goal.returns
unfolding leap_year months month_days real_date year_days date_of date_number holds wrong_session overlap wrong_sessions
    real_number wrong_holidays set_of is_holiday is_trading next_trading china_day china_second in_session trade_day ask_of
    mark_date examples
returns c = tt
