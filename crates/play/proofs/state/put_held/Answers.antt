use borrow.Author.Rules.{rules}
use native.Mathlib.Omega.{arith}
use Rattle.listing.proofs.Texts.{wrote-both}
use Rattle.play.specs.State.{held_text}
use Rattle.play.proofs.state.put_held.Goals as goal

pub returns : goal.returns
unfolding held_text
returns c =
    let t2 = wrote-both (omega (arith, c.requires)) c.put_word-n.ensures c.put_number-n.ensures.0 in
    let t3 = wrote-both (omega (arith, c.requires)) t2 c.put_byte-n.ensures in
    (wrote-both (omega (arith, c.requires)) t3 c.put_number.ensures.0, search rules)
