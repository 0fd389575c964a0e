use native.Mathlib.Omega.{arith}
use Rattle.listing.specs.Lines.{line_with}
use Rattle.listing.proofs.Texts.{wrote-both}
use Rattle.listing.proofs.packet_line.Goals as goal

pub returns : goal.returns
unfolding line_with
returns c =
    wrote-both (omega arith)
    (wrote-both (omega arith)
    c.begin_line-n.ensures.0
    c.put_packet-n.ensures.0) c.put_byte.ensures
