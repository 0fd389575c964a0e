use Rattle.std.proofs.Common.{arith}
use Rattle.std.proofs.lemmas.Grind.{common_steps}
use Rattle.flow.specs.Ends.{wrong_series}
use Rattle.flow.proofs.series.Rule.{member-any}
use Rattle.flow.proofs.series.wrong_series.Goals as goal

pub returns-then-contains : goal.returns-then-contains
unfolding wrong_series
returns-then-contains c = grind (arith, common_steps, member-any)

pub returns-else-contains : goal.returns-else-contains
unfolding wrong_series
returns-else-contains c = grind (arith, common_steps, member-any)
