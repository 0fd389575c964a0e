use borrow.Author.Rules.{rules}
use Rattle.calendar.specs.Calendar.{real_number}
use Rattle.calendar.proofs.holidays.real_number.Goals as goal

pub returns : goal.returns
unfolding real_number
returns c = search rules
