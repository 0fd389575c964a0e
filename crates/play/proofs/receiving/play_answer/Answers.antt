use borrow.Author.Rules.{rules}
use Rattle.play.proofs.words.Parts.{taken, said-room, said-part, said-front}
use Rattle.play.proofs.receiving.Shown.{answer-played}
use Rattle.play.proofs.receiving.play_answer.Goals as goal

pub put_bytes-n-requires : goal.put_bytes-n-requires
put_bytes-n-requires c = search (rules, said-room)

pub slice_bounds-answer-end : goal.slice_bounds-answer-end
slice_bounds-answer-end c = search (rules, said-part)

pub slice_bounds-answer-end-2 : goal.slice_bounds-answer-end-2
slice_bounds-answer-end-2 c = taken _ _ (search (rules, said-part))

pub returns : goal.returns
returns c = search (rules, answer-played, said-front)
