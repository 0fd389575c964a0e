use Rattle.exports.proofs.Meaning.Calls.{answer-laws}
use Rattle.exports.proofs.keeps_answer_laws.Goals as goal

pub returns : goal.returns
returns c = answer-laws
