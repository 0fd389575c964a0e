use Rattle.exports.proofs.boxes.Calls.{ask-numbers}
use Rattle.exports.proofs.boxes.ftd_box_request_login.Goals as goal

pub returns : goal.returns
returns c =
    let said = ask-numbers c.args.state c.relay_for.result c.relay_for.ensures c.args.series c.args.content.now c.args.out.now
    c.request_login.result _ _ c.request_login.ensures c.bytes_of.ensures in
    record { answer = said.0; output = said.1 }
