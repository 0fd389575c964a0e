use Rattle.exports.proofs.Laws.{end-laws}
use Rattle.exports.proofs.keeps_end_laws.Goals as goal

pub returns : goal.returns
returns c = end-laws
