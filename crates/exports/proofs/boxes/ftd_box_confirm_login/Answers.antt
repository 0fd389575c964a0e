use Rattle.exports.proofs.boxes.Calls.{confirm-numbers}
use Rattle.exports.proofs.boxes.ftd_box_confirm_login.Goals as goal

pub returns : goal.returns
returns c =
    let said = confirm-numbers c.args.state c.relay_for.result c.relay_for.ensures c.args.places.now _ c.args.series
    c.args.packet.now c.args.log.now c.confirm_login-step.result _ _ c.confirm_login-step.ensures
    c.box_numbers.ensures c.box_confirmed.ensures in
    record { answer = said.0; seats = said.1 }
