use borrow.Author.Rules.{rules}
use native.Mathlib.Omega.{arith}
use Rattle.listing.proofs.Texts.{wrote-both}
use Rattle.play.specs.Lines.{word_line}
use Rattle.play.specs.State.{serving_line}
use Rattle.play.proofs.state.put_serving.Goals as goal

pub returns : goal.returns
unfolding serving_line word_line
returns c =
    let t2 = wrote-both (omega arith) c.put_word-n.ensures c.put_byte-n.ensures in
    let t3 = wrote-both (omega arith) t2 c.put_date-n.ensures.0 in
    let t4 = wrote-both (omega arith) t3 c.put_byte-n-2.ensures in
    let t5 = wrote-both (omega arith) t4 c.put_number-n.ensures.0 in
    (wrote-both (omega arith) t5 c.put_byte.ensures, search rules)
