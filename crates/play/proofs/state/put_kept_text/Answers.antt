use borrow.Author.Rules.{rules}
use native.Mathlib.Omega.{arith}
use Rattle.listing.proofs.Texts.{wrote-both}
use Rattle.play.specs.State.{kept_text}
use Rattle.play.proofs.state.put_kept_text.Goals as goal

pub returns : goal.returns
unfolding kept_text
returns c =
    let t2 = wrote-both (omega arith) c.put_numbered-n.ensures.0 c.put_byte-n.ensures in
    let t3 = wrote-both (omega arith) t2 c.put_date-n.ensures.0 in
    let t4 = wrote-both (omega arith) t3 c.put_byte-n-2.ensures in (
      rw (← c.size16.ensures.0, ← c.size32.ensures.0)
          (wrote-both (omega arith) t4 c.put_numbered.ensures.0),
      search rules,
    )
