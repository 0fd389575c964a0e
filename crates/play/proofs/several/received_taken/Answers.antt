use native.Mathlib.Omega.{arith}
use borrow.Author.Rules.{rules}
use Rattle.listing.proofs.Texts.{wrote-both}
use Rattle.play.specs.Lines.{word_line}
use Rattle.play.specs.Several.{taken_line}
use Rattle.play.proofs.several.received_taken.Goals as goal

pub returns : goal.returns
unfolding taken_line word_line
returns c =
    let t2 = wrote-both (omega arith) c.put_numbered-to.ensures.0 c.put_byte-to.ensures in
    let t3 = wrote-both (omega arith) t2 c.put_received_why-to.ensures.0 in
    (wrote-both (omega arith) t3 c.put_byte.ensures, search rules)
