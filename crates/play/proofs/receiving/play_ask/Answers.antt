use borrow.Author.Rules.{rules}
use Rattle.play.proofs.words.Parts.{taken, taken_back, digits-fit, said-room, said-part, said-front}
use Rattle.play.proofs.receiving.Shown.{ask-played}
use Rattle.play.proofs.receiving.play_ask.Goals as goal

pub put_bytes-n-requires : goal.put_bytes-n-requires
put_bytes-n-requires c = search (rules, said-room)

pub slice_bounds-ask-end : goal.slice_bounds-ask-end
slice_bounds-ask-end c = search (rules, said-part)

pub slice_bounds-ask-end-2 : goal.slice_bounds-ask-end-2
slice_bounds-ask-end-2 c = taken _ _ (search (rules, said-part))

pub slice_bounds-ask-end-4 : goal.slice_bounds-ask-end-4
slice_bounds-ask-end-4 c = taken _ _ (search rules)

pub ask-requires : goal.ask-requires
ask-requires c = search (rules, digits-fit)

pub returns : goal.returns
returns c = search (rules, ask-played, taken_back, said-front)
