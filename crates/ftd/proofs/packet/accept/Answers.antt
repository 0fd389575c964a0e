use Rattle.ftd.proofs.packet.Verdicts.{accepted-made}
use Rattle.ftd.proofs.packet.accept.Goals as goal

pub returns : goal.returns
returns c = accepted-made _ _ _ c.requires.0 _ c.header_of.ensures
