use Rattle.std.proofs.Common.{arith}
use Rattle.relay.proofs.relay.Handing.{kept-is, hands-of}
use Rattle.relay.proofs.relay.Relay.receive.Goals as goal

-- src/relay.rt:471:18
pub hand_on-requires : goal.hand_on-requires
hand_on-requires c =
    (c.decide-d.ensures, hands-of _ _ _ _ _ c.in-Complete.is)

pub returns-in-Idle : goal.returns-in-Idle
returns-in-Idle c =
    kept-is c.args.self c.args.packet.now c.args.log.now c.args.buffer.now c.decide-d.result c.decide-d.ensures
    (grind (arith, c.in-Idle.is)) _ _ c.keep.ensures
