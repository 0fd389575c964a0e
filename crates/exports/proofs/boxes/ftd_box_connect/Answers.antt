use Rattle.exports.proofs.boxes.Calls.{connect-numbers}
use Rattle.exports.proofs.boxes.ftd_box_connect.Goals as goal

pub returns : goal.returns
returns c =
    connect-numbers c.args.state c.relay_for.result c.relay_for.ensures c.connect.result _
    c.connect.ensures c.box_numbers.ensures
