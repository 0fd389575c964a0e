use Rattle.exports.proofs.Meaning.Values.{value-laws}
use Rattle.exports.proofs.keeps_value_laws.Goals as goal

pub returns : goal.returns
returns c = value-laws
