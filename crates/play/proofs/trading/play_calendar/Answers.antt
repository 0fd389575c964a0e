use borrow.Author.Rules.{rules}
use Rattle.play.proofs.words.Parts.{taken}
use Rattle.play.proofs.words.Arguments.{list-front}
use Rattle.play.proofs.trading.Shown.{calendar-played}
use Rattle.play.proofs.trading.play_calendar.Goals as goal

pub slice_bounds-set_calendar-end : goal.slice_bounds-set_calendar-end
slice_bounds-set_calendar-end c = taken _ _ (search rules)

pub slice_bounds-set_calendar-end-2 : goal.slice_bounds-set_calendar-end-2
slice_bounds-set_calendar-end-2 c = taken _ _ (search rules)

pub returns : goal.returns
returns c = search (rules, calendar-played, list-front)
