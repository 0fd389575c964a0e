use borrow.Author.Rules.{rules}
use native.Mathlib.Omega.{arith}
use Rattle.listing.proofs.Texts.{wrote-both}
use Rattle.play.specs.State.{state_lines}
use Rattle.play.proofs.state.state_lines.Goals as goal

pub returns : goal.returns
unfolding state_lines
returns c =
    let t2 = wrote-both (omega arith) c.put_serving-n.ensures.0 c.put_all_served-n.ensures.0 in
    let t3 = wrote-both (omega arith) t2 c.put_receiving-n.ensures.0 in
    let t4 = wrote-both (omega arith) t3 c.put_all_kept-n.ensures.0 in
    (wrote-both (omega arith) t4 c.put_places.ensures.0, search rules)
