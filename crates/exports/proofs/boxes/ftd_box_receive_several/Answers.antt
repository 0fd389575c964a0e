use Rattle.exports.proofs.boxes.Calls.{several-numbers}
use Rattle.exports.proofs.boxes.ftd_box_receive_several.Goals as goal

pub returns : goal.returns
returns c =
    let g = several-numbers c.args.state c.relay_for.result
    c.relay_for.ensures c.args.packets.now c.args.log.now c.args.buffer.now c.receive_several-step.result _ _ _ _
    c.receive_several-step.ensures c.box_numbers.ensures c.box_received_several.ensures in
    record { answer = g.0; log = g.1; buffer = g.2 }
