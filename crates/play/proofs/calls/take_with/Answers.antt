use Rattle.ftd.proofs.Tests.{tests}
use Rattle.play.specs.Calls.{take_with}
use Rattle.play.proofs.calls.Rows.{holds, fails}
use Rattle.play.proofs.calls.take_with.Goals.{else-right-via-then-right+else-tid-le4294967295}
use Rattle.play.proofs.calls.take_with.Goals.{else-right-via-else-right}
use Rattle.play.proofs.calls.take_with.Goals as goal

pub returns-then-tid-le4294967295 : goal.returns-then-tid-le4294967295
unfolding take_with
returns-then-tid-le4294967295 c = search (tests, holds, fails)

pub returns : goal.returns
unfolding take_with
returns c =
    elim c.else-right.branch [
      | else-right-via-then-right+else-tid-le4294967295 w ↦ search (tests, holds, fails)
      | else-right-via-else-right w ↦ search (tests, holds, fails)
    ]
