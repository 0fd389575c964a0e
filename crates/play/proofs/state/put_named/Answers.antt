use borrow.Author.Rules.{rules}
use native.Mathlib.Omega.{arith}
use Rattle.listing.proofs.Texts.{wrote-both}
use Rattle.play.specs.Lines.{word_line}
use Rattle.play.specs.State.{named_line}
use Rattle.play.proofs.state.put_named.Goals as goal

pub returns : goal.returns
unfolding named_line word_line
returns c =
    let t2 = wrote-both (omega (arith, c.requires)) c.put_word-n.ensures c.put_name-n.ensures.0 in
    (wrote-both (omega (arith, c.requires)) t2 c.put_byte.ensures, search rules)
