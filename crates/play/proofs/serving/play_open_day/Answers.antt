use borrow.Author.Rules.{rules}
use Rattle.play.proofs.words.Parts.{taken}
use Rattle.play.proofs.words.Arguments.{list-front}
use Rattle.play.proofs.serving.Shown.{day-played}
use Rattle.play.proofs.serving.play_open_day.Goals as goal

pub slice_bounds-open_day-end : goal.slice_bounds-open_day-end
slice_bounds-open_day-end c = taken _ _ (search rules)

pub slice_bounds-open_day-end-2 : goal.slice_bounds-open_day-end-2
slice_bounds-open_day-end-2 c = taken _ _ (search rules)

pub slice_bounds-open_day-end-3 : goal.slice_bounds-open_day-end-3
slice_bounds-open_day-end-3 c = taken _ _ (search rules)

pub returns : goal.returns
returns c = search (rules, day-played, list-front)
