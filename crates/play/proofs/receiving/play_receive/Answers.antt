use borrow.Author.Rules.{rules}
use Rattle.play.proofs.words.Parts.{taken, digits-fit, said-room, said-part, said-digits, said-front}
use Rattle.play.proofs.receiving.Shown.{receive-played}
use Rattle.play.proofs.receiving.play_receive.Goals as goal

pub put_bytes-n-requires : goal.put_bytes-n-requires
put_bytes-n-requires c = search (rules, said-room)

pub slice_bounds-receive-end : goal.slice_bounds-receive-end
slice_bounds-receive-end c = search (rules, said-part)

pub slice_bounds-receive-end-2 : goal.slice_bounds-receive-end-2
slice_bounds-receive-end-2 c = taken _ _ (search (rules, said-part))

pub slice_bounds-receive-end-4 : goal.slice_bounds-receive-end-4
slice_bounds-receive-end-4 c = taken _ _ (search rules)

pub receive-requires : goal.receive-requires
receive-requires c = (search (rules, said-digits, said-part), search (rules, digits-fit))

pub returns : goal.returns
returns c = search (rules, receive-played, said-front)
