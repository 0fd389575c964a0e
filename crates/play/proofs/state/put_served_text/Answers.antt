use borrow.Author.Rules.{rules}
use native.Mathlib.Omega.{arith}
use Rattle.listing.proofs.Texts.{wrote-both}
use Rattle.play.specs.State.{served_text}
use Rattle.play.proofs.state.put_served_text.Goals as goal

pub returns : goal.returns
unfolding served_text
returns c =
    let t2 = wrote-both (omega (arith, c.requires)) c.put_numbered-n.ensures.0 c.put_byte-n.ensures in (
      rw (← c.size16.ensures.0, ← c.size32.ensures.0)
          (wrote-both (omega (arith, c.requires)) t2 c.put_numbered.ensures.0),
      search rules,
    )
