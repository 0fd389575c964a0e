use Rattle.exports.proofs.boxes.Calls.{fresh-numbers}
use Rattle.exports.proofs.boxes.ftd_box_fresh.Goals as goal

pub returns : goal.returns
returns c = fresh-numbers c.fresh.result _ c.fresh.ensures c.box_numbers.ensures
