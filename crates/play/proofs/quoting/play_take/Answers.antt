use borrow.Author.Rules.{rules}
use Rattle.play.proofs.words.Parts.{taken, said-room, said-part, said-front}
use Rattle.play.proofs.quoting.Shown.{take-played}
use Rattle.play.proofs.quoting.play_take.Goals as goal

pub put_bytes-n-requires : goal.put_bytes-n-requires
put_bytes-n-requires c = search (rules, said-room)

pub slice_bounds-take_message-end : goal.slice_bounds-take_message-end
slice_bounds-take_message-end c = search (rules, said-part)

pub slice_bounds-take_message-end-2 : goal.slice_bounds-take_message-end-2
slice_bounds-take_message-end-2 c = taken _ _ (search (rules, said-part))

pub returns : goal.returns
returns c = search (rules, take-played, said-front)
