use Rattle.std.proofs.Common.{arith}
use Rattle.std.proofs.lemmas.Grind.{common_steps}
use Rattle.flow.specs.Checkpoints.{wrong_name}
use Rattle.flow.proofs.checkpoint.Letters.{letters-all}
use Rattle.flow.proofs.checkpoint.wrong_name.Goals as goal

pub returns-then-name-gt8 : goal.returns-then-name-gt8
unfolding wrong_name
returns-then-name-gt8 c = grind (arith, common_steps, letters-all)

pub returns-else-name-gt8 : goal.returns-else-name-gt8
unfolding wrong_name
returns-else-name-gt8 c = grind (arith, common_steps, letters-all)
