use Rattle.flow.proofs.rewind.Numbers.{rewind-numbers}
use Rattle.flow.proofs.keeps_rewind_numbers.Goals as goal

pub returns : goal.returns
returns c = rewind-numbers
