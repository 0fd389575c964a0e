use borrow.Author.Tests.{lt-leb, le-leb}
use Rattle.ftd.specs.Packet.{said_in, said_length}
use Rattle.ftd.proofs.packet.said_length.Goals as goal

pub returns-then-p-ge4 : goal.returns-then-p-ge4
unfolding said_in said_length
returns-then-p-ge4 c =
    rw (
      le-leb _ _ c.if-p-ge4.true,
      c.size16.ensures.0,
      c.be16.ensures,
      c.size8.ensures.0,
    )

pub returns : goal.returns
unfolding said_in
returns c = rw (lt-leb _ _ c.if-p-ge4.false)
