use Rattle.exports.proofs.frames.Laws.{frame-number-laws}
use Rattle.exports.proofs.frames.keeps_reading_numbers.Goals as goal

pub returns : goal.returns
returns c = frame-number-laws
