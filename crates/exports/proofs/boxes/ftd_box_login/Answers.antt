use Rattle.exports.proofs.boxes.Calls.{login-numbers}
use Rattle.exports.proofs.boxes.ftd_box_login.Goals as goal

pub returns : goal.returns
returns c =
    let g = login-numbers c.args.state c.relay_for.result
    c.relay_for.ensures c.args.places.now _ c.args.seat c.args.series
    c.args.packet.now c.args.content.now c.args.out.now c.login.result _ _ c.login.ensures
    c.bytes_of.ensures in
    record { answer = g.0; seats = g.1; output = g.2 }
