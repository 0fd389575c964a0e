use borrow.Author.Rules.{rules}
use native.Mathlib.Omega.{arith}
use Rattle.listing.proofs.Texts.{wrote-both}
use Rattle.play.specs.Lines.{message_line, word_line}
use Rattle.play.proofs.text.message_line.Goals as goal

pub returns : goal.returns
unfolding message_line word_line
returns c =
    let t2 = wrote-both (omega arith) c.put_message-n.ensures.0 c.put_content-n.ensures.0 in
    (wrote-both (omega arith) t2 c.put_byte.ensures, search rules)
