use Rattle.ftd.proofs.Tests.{tests}
use Rattle.play.specs.Calls.{mark_with}
use Rattle.play.proofs.calls.Rows.{holds, fails}
use Rattle.play.proofs.calls.mark_with.Goals.{else-right-via-then-right+else-mark-le4294967295}
use Rattle.play.proofs.calls.mark_with.Goals.{else-right-via-else-right}
use Rattle.play.proofs.calls.mark_with.Goals as goal

pub returns-then-mark-le4294967295 : goal.returns-then-mark-le4294967295
unfolding mark_with
returns-then-mark-le4294967295 c = search (tests, holds, fails)

pub returns : goal.returns
unfolding mark_with
returns c =
    elim c.else-right.branch [
      | else-right-via-then-right+else-mark-le4294967295 w ↦ search (tests, holds, fails)
      | else-right-via-else-right w ↦ search (tests, holds, fails)
    ]
