use Rattle.flow.proofs.PacketByPacket.{packet-by-packet}
use Rattle.flow.proofs.keeps_packet_by_packet.Goals as goal

pub returns : goal.returns
returns c = packet-by-packet
