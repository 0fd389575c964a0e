use Rattle.exports.proofs.boxes.Calls.{send-numbers}
use Rattle.exports.proofs.boxes.ftd_box_send.Goals as goal

pub returns : goal.returns
returns c =
    let g = send-numbers c.args.state c.relay_for.result
    c.relay_for.ensures c.args.places.now _ c.args.seat c.args.series
    c.args.log.now c.args.out.now c.send.result _ _ c.send.ensures c.seat_sent.ensures in
    record { answer = g.0; seats = g.1; output = g.2 }
