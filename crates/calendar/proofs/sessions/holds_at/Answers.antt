use Rattle.calendar.specs.Calendar.{holds}
use Rattle.ftd.proofs.Tests.{tests}
use Rattle.calendar.proofs.sessions.holds_at.Goals as goal

pub returns-then-s-i : goal.returns-then-s-i
unfolding holds
returns-then-s-i c = search tests

pub returns-else-s-i : goal.returns-else-s-i
unfolding holds
returns-else-s-i c = search tests
