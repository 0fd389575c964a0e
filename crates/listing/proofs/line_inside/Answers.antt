use native.Mathlib.Omega.{arith}
use Rattle.ftd.proofs.packet.Laws.{inside}
use Rattle.listing.proofs.Lines.{next_fits, inside-more, inside-last}
use Rattle.listing.proofs.line_inside.Goals as goal

pub packet_line-len-requires : goal.packet_line-len-requires
packet_line-len-requires c = (omega arith, rw c.read-found.ensures (inside _))

pub overflow_add-result : goal.overflow_add-result
overflow_add-result c =
    omega (
      arith,
      next_fits c.args.capture.now c.args.at c.requires.0 _ _
          c.read-found.ensures
          c.goes_on.ensures
          c.if-goes_on.true _ c.said_length.ensures,
    )

pub returns-then-goes_on : goal.returns-then-goes_on
returns-then-goes_on c =
    let said = inside-more c.args.capture.now c.args.at c.requires.0 _ _
    c.read-found.ensures c.goes_on.ensures
    c.args.out.now _ _ c.requires.1
    c.packet_line-len.ensures c.if-goes_on.true _
    c.said_length.ensures in
    record { answer = said.0; output = said.1 }

pub returns-else-goes_on : goal.returns-else-goes_on
returns-else-goes_on c =
    let said = inside-last c.args.capture.now c.args.at c.requires.0 _ _ c.read-found.ensures
    c.goes_on.ensures c.args.out.now _ _ c.requires.1
    c.packet_line-len.ensures c.if-goes_on.false in
    record { answer = said.0; output = said.1 }
