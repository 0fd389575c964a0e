use Rattle.calendar.specs.Calendar.{wrong_session}
use Rattle.ftd.proofs.Tests.{tests}
use Rattle.calendar.proofs.sessions.wrong_at.Goals as goal

pub returns-then-s-i : goal.returns-then-s-i
unfolding wrong_session
returns-then-s-i c = search tests

pub returns-else-s-i : goal.returns-else-s-i
unfolding wrong_session
returns-else-s-i c = search tests
