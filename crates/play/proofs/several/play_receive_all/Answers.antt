use borrow.Author.Rules.{rules}
use Rattle.play.proofs.words.Parts.{taken, said-room, said-part, said-front}
use Rattle.play.proofs.several.Shown.{packets-room, receive-all-played}
use Rattle.play.proofs.several.play_receive_all.Goals as goal

pub put_bytes-n-requires : goal.put_bytes-n-requires
put_bytes-n-requires c = search (rules, said-room)

pub slice_bounds-receive_all-end : goal.slice_bounds-receive_all-end
slice_bounds-receive_all-end c = search (rules, said-part)

pub slice_bounds-receive_all-end-2 : goal.slice_bounds-receive_all-end-2
slice_bounds-receive_all-end-2 c = taken _ _ (search (rules, said-part))

pub slice_bounds-receive_all-end-4 : goal.slice_bounds-receive_all-end-4
slice_bounds-receive_all-end-4 c = taken _ _ (search rules)

pub receive_all-requires : goal.receive_all-requires
receive_all-requires c = search (rules, packets-room, said-part)

pub returns : goal.returns
returns c = search (rules, receive-all-played, said-front)
