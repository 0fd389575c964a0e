use borrow.Author.Rules.{rules}
use native.Mathlib.Omega.{arith}
use Rattle.listing.proofs.Texts.{wrote-both}
use Rattle.play.specs.Lines.{word_line}
use Rattle.play.specs.State.{receiving_line}
use Rattle.play.proofs.state.put_receiving.Goals as goal

pub returns : goal.returns
unfolding receiving_line word_line
returns c =
    (wrote-both (omega arith) c.put_numbered-n.ensures.0 c.put_byte.ensures, search rules)
