use Rattle.exports.proofs.boxes.Calls.{open-numbers}
use Rattle.exports.proofs.boxes.ftd_box_open.Goals as goal

pub returns : goal.returns
returns c =
    open-numbers c.args.state c.relay_for.result c.relay_for.ensures c.args.series.now c.args.reserves.now
    c.open-step.result _ _ c.open-step.ensures c.box_numbers.ensures c.refusal_of.ensures
