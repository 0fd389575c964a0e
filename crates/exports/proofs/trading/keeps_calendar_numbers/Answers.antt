use Rattle.exports.proofs.trading.Laws.{calendar-number-laws}
use Rattle.exports.proofs.trading.keeps_calendar_numbers.Goals as goal

pub returns : goal.returns
returns c = calendar-number-laws
