use Rattle.exports.proofs.boxes.Calls.{packet-numbers}
use Rattle.exports.proofs.boxes.ftd_box_send_packet.Goals as goal

pub returns : goal.returns
returns c =
    let g = packet-numbers c.args.state c.relay_for.result
    c.relay_for.ensures c.args.places.now _ c.args.seat c.args.series
    c.args.log.now c.args.out.now c.send_packet.result _ _ c.send_packet.ensures c.seat_packet.ensures in
    record { answer = g.0; seats = g.1; output = g.2 }
