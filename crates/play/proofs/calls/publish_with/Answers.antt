use Rattle.ftd.proofs.Tests.{tests}
use Rattle.play.specs.Calls.{publish_with}
use Rattle.play.proofs.calls.Rows.{holds, fails}
use Rattle.play.proofs.calls.publish_with.Goals.{else-right-via-then-right+then-series-le65535+else-tid-le4294967295}
use Rattle.play.proofs.calls.publish_with.Goals.{else-right-via-then-right+else-series-le65535}
use Rattle.play.proofs.calls.publish_with.Goals.{else-right-via-else-right}
use Rattle.play.proofs.calls.publish_with.Goals as goal

pub returns-then-tid-le4294967295 : goal.returns-then-tid-le4294967295
unfolding publish_with
returns-then-tid-le4294967295 c = search (tests, holds, fails)

pub returns : goal.returns
unfolding publish_with
returns c =
    elim c.else-right.branch [
      | else-right-via-then-right+then-series-le65535+else-tid-le4294967295 w ↦ search (tests, holds, fails)
      | else-right-via-then-right+else-series-le65535 w ↦ search (tests, holds, fails)
      | else-right-via-else-right w ↦ search (tests, holds, fails)
    ]
