use Rattle.calendar.specs.Calendar.{overlap}
use Rattle.ftd.proofs.Tests.{tests}
use Rattle.calendar.proofs.sessions.overlap_at.Goals as goal

pub returns-then-s-i : goal.returns-then-s-i
unfolding overlap
returns-then-s-i c = search tests

pub returns-else-s-i : goal.returns-else-s-i
unfolding overlap
returns-else-s-i c = search tests
