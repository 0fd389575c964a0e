use borrow.Author.Rules.{rules}
use Rattle.play.proofs.words.Parts.{taken}
use Rattle.play.proofs.several.Shown.{received-shown, packets-front, packets-back}
use Rattle.play.proofs.several.receive_all.Goals as goal

pub slice_bounds-receive_packets-end-2 : goal.slice_bounds-receive_packets-end-2
slice_bounds-receive_packets-end-2 c = taken _ _ (search rules)

pub receive_packets-all-requires : goal.receive_packets-all-requires
receive_packets-all-requires c = search (rules, packets-front)

pub received_taken-len-requires : goal.received_taken-len-requires
received_taken-len-requires c = search (rules, packets-back)

pub returns : goal.returns
returns c = search (rules, received-shown)
