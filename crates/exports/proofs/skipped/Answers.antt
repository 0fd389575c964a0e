use Rattle.exports.specs.Numbers.{skipped_numbers}
use Rattle.exports.proofs.skipped.Goals as goal

pub returns : goal.returns
unfolding skipped_numbers
returns c = rw (c.into.ensures, c.into-2.ensures)
