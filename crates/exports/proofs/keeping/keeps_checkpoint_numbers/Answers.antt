use Rattle.exports.proofs.keeping.Laws.{checkpoint-number-laws}
use Rattle.exports.proofs.keeping.keeps_checkpoint_numbers.Goals as goal

pub returns : goal.returns
returns c = checkpoint-number-laws
