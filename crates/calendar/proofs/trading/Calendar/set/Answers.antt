use borrow.Author.Rules.{rules}
use Rattle.calendar.proofs.trading.Laws.{set-26, set-27, set-done, few-sessions, few-holidays}
use Rattle.calendar.proofs.trading.Calendar.set.Goals as goal

pub returns-then-wrong_sessions : goal.returns-then-wrong_sessions
returns-then-wrong_sessions c = search (rules, set-26)

pub returns-then-wrong_holidays : goal.returns-then-wrong_holidays
returns-then-wrong_holidays c = search (rules, set-27)

pub slice_bounds-places-end : goal.slice_bounds-places-end
slice_bounds-places-end c = search (rules, few-sessions)

pub slice_bounds-copy_from_slice-end : goal.slice_bounds-copy_from_slice-end
slice_bounds-copy_from_slice-end c = search (rules, few-sessions)

pub copy_from_slice-requires : goal.copy_from_slice-requires
copy_from_slice-requires c = search (rules, few-sessions)

pub slice_bounds-dates-end : goal.slice_bounds-dates-end
slice_bounds-dates-end c = search (rules, few-holidays)

pub slice_bounds-copy_from_slice-end-2 : goal.slice_bounds-copy_from_slice-end-2
slice_bounds-copy_from_slice-end-2 c = search (rules, few-holidays)

pub copy_from_slice-requires-2 : goal.copy_from_slice-requires-2
copy_from_slice-requires-2 c = search (rules, few-holidays)

pub returns : goal.returns
returns c = search (rules, set-done)
