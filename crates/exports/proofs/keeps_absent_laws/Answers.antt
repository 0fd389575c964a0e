use Rattle.exports.proofs.Meaning.Absent.{absent-laws}
use Rattle.exports.proofs.keeps_absent_laws.Goals as goal

pub returns : goal.returns
returns c = absent-laws
