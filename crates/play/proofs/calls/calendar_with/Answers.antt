use Rattle.ftd.proofs.Tests.{tests}
use Rattle.play.specs.Calls.{calendar_with}
use Rattle.play.proofs.calls.calendar_with.Goals.{then-sessions-gt16-via-then-sessions-gt16}
use Rattle.play.proofs.calls.calendar_with.Goals.{then-sessions-gt16-via-else-sessions-gt16+then-count-gt112}
use Rattle.play.proofs.calls.calendar_with.Goals.{then-count-n-via-then-count-n}
use Rattle.play.proofs.calls.calendar_with.Goals.{then-count-n-via-else-count-n+then-count-n-gt64}
use Rattle.play.proofs.calls.calendar_with.Goals as goal

pub returns-then-sessions-gt16 : goal.returns-then-sessions-gt16
unfolding calendar_with
returns-then-sessions-gt16 c =
    elim c.then-sessions-gt16.branch [
      | then-sessions-gt16-via-then-sessions-gt16 w ↦ search tests
      | then-sessions-gt16-via-else-sessions-gt16+then-count-gt112 w ↦ search tests
    ]

pub returns-then-count-n : goal.returns-then-count-n
unfolding calendar_with
returns-then-count-n c =
    elim c.then-count-n.branch [
      | then-count-n-via-then-count-n w ↦ search tests
      | then-count-n-via-else-count-n+then-count-n-gt64 w ↦ search tests
    ]

pub returns : goal.returns
unfolding calendar_with
returns c = search tests
