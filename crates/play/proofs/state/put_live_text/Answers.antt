use borrow.Author.Rules.{rules}
use native.Mathlib.Omega.{arith}
use Rattle.listing.proofs.Texts.{wrote-both}
use Rattle.play.specs.Lines.{word_line}
use Rattle.play.specs.State.{live_text}
use Rattle.play.proofs.state.put_live_text.Goals as goal

pub returns : goal.returns
unfolding live_text word_line
returns c =
    let held = rw c.size32.ensures.0 at c.put_chain-n.ensures.0 in
    let t2 = wrote-both (omega arith) c.put_login-n.ensures.0 held in
    (wrote-both (omega arith) t2 c.put_byte.ensures, search rules)
