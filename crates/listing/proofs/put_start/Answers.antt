use native.Mathlib.Omega.{arith}
use Rattle.listing.specs.Lines.{start_text}
use Rattle.listing.proofs.Texts.{wrote-both}
use Rattle.listing.proofs.put_start.Goals as goal

pub put_byte-n-requires : goal.put_byte-n-requires
put_byte-n-requires c = omega arith

pub put_byte-requires : goal.put_byte-requires
put_byte-requires c = omega arith

pub returns : goal.returns
unfolding start_text
returns c = (
  wrote-both (omega arith)
      (wrote-both (omega arith)
      (wrote-both (omega arith)
      c.put_word-n.ensures
      c.put_hex-n.ensures.0)
      c.put_byte-n.ensures)
      c.put_byte.ensures,
  omega arith,
)
