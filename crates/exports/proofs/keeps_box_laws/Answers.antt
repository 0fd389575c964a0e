use Rattle.exports.proofs.boxes.Laws.{box_laws}
use Rattle.exports.proofs.keeps_box_laws.Goals as goal

pub returns : goal.returns
returns c = box_laws
