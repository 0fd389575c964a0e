use Rattle.ftd.specs.Bytes.{be16_of}
use Rattle.ftd.proofs.packet.body_in.Goals as goal

pub returns : goal.returns
unfolding be16_of
returns c =
    rw (
      c.size8-2.ensures.0,
      c.byte_in-2.ensures,
      c.size8.ensures.0,
      c.byte_in.ensures,
    )
