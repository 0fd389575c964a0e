use borrow.Author.Rules.{rules}
use native.Mathlib.Omega.{arith}
use Rattle.listing.proofs.Texts.{wrote-both}
use Rattle.play.specs.Lines.{word_line}
use Rattle.play.specs.State.{served_line}
use Rattle.play.proofs.state.put_served.Goals as goal

pub returns : goal.returns
unfolding served_line word_line
returns c =
    let t2 = wrote-both (omega arith) c.put_served_text-n.ensures.0 c.put_share-n.ensures.0 in
    let t3 = wrote-both (omega arith) t2 c.put_place-n.ensures.0 in
    (wrote-both (omega arith) t3 c.put_byte.ensures, search rules)
