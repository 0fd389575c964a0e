use Rattle.exports.proofs.BoxDriver.{box-driver-laws}
use Rattle.exports.proofs.keeps_box_driver_laws.Goals as goal

pub returns : goal.returns
returns c = box-driver-laws
