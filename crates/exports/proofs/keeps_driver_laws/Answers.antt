use Rattle.exports.proofs.Driver.{driver-laws}
use Rattle.exports.proofs.keeps_driver_laws.Goals as goal

pub returns : goal.returns
returns c = driver-laws
