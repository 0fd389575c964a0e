use Rattle.std.proofs.Common.{arith}
use Rattle.std.proofs.lemmas.Grind.{common_steps}
use Rattle.calendar.specs.Calendar.{wrong_sessions}
use Rattle.calendar.proofs.sessions.wrong_sessions.Goals as goal

pub returns-then-any_wrong : goal.returns-then-any_wrong
unfolding wrong_sessions
returns-then-any_wrong c = grind (arith, common_steps)

pub returns-else-any_wrong : goal.returns-else-any_wrong
unfolding wrong_sessions
returns-else-any_wrong c = grind (arith, common_steps)
