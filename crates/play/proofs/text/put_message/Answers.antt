use borrow.Author.Rules.{rules}
use native.Mathlib.Omega.{arith}
use Rattle.listing.proofs.Texts.{wrote-both}
use Rattle.play.specs.Lines.{message_start}
use Rattle.play.proofs.text.put_message.Goals as goal

pub returns : goal.returns
unfolding message_start
returns c =
    let t2 = wrote-both (omega arith) c.put_numbered-n.ensures.0 c.put_byte-n.ensures in
    let t3 = wrote-both (omega arith) t2 c.put_hex-n.ensures.0 in (
      rw (← c.size32.ensures.0)
          (wrote-both (omega arith) t3 c.put_byte.ensures),
      search rules,
    )
