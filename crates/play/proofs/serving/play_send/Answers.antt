use borrow.Author.Rules.{rules}
use Rattle.play.proofs.words.Parts.{taken, taken_back, digits-fit}
use Rattle.play.proofs.serving.Shown.{send-played, packet-played}
use Rattle.play.proofs.serving.play_send.Goals as goal

pub slice_bounds-send_packet-end : goal.slice_bounds-send_packet-end
slice_bounds-send_packet-end c = taken _ _ (search rules)

pub slice_bounds-send_packet-end-then-single-2 : goal.slice_bounds-send_packet-end-then-single-2
slice_bounds-send_packet-end-then-single-2 c = taken _ _ (search rules)

pub send_packet-requires : goal.send_packet-requires
send_packet-requires c = search (rules, digits-fit)

pub returns-then-single : goal.returns-then-single
returns-then-single c = search (rules, packet-played, taken_back)

pub slice_bounds-send-end : goal.slice_bounds-send-end
slice_bounds-send-end c = taken _ _ (search rules)

pub slice_bounds-send-end-3 : goal.slice_bounds-send-end-3
slice_bounds-send-end-3 c = taken _ _ (search rules)

pub send-requires : goal.send-requires
send-requires c = search (rules, digits-fit)

pub returns : goal.returns
returns c = search (rules, send-played, taken_back)
