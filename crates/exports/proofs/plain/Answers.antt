use mathlib.Core.Path.{refl}
use Rattle.exports.specs.Numbers.{plain_numbers}
use Rattle.exports.proofs.plain.Goals as goal

pub returns : goal.returns
unfolding plain_numbers
returns c = refl
