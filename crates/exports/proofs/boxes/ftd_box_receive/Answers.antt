use Rattle.exports.proofs.boxes.Calls.{receive-numbers}
use Rattle.exports.proofs.boxes.ftd_box_receive.Goals as goal

pub returns : goal.returns
returns c =
    let g = receive-numbers c.args.state c.relay_for.result
    c.relay_for.ensures c.args.packet.now c.args.log.now c.args.buffer.now c.receive-step.result _ _ _ _
    c.receive-step.ensures c.box_numbers.ensures c.box_received.ensures in
    record { answer = g.0; log = g.1; buffer = g.2 }
