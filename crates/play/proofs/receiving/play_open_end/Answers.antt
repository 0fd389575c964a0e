use borrow.Author.Rules.{rules}
use Rattle.play.proofs.words.Parts.{taken}
use Rattle.play.proofs.words.Arguments.{list-front}
use Rattle.play.proofs.receiving.Shown.{end-played}
use Rattle.play.proofs.receiving.play_open_end.Goals as goal

pub slice_bounds-open_end-end : goal.slice_bounds-open_end-end
slice_bounds-open_end-end c = taken _ _ (search rules)

pub returns : goal.returns
returns c = search (rules, end-played, list-front)
