use Rattle.ftd.proofs.Tests.{tests}
use Rattle.play.specs.Calls.{answer_with}
use Rattle.play.proofs.calls.Rows.{holds, fails}
use Rattle.play.proofs.calls.answer_with.Goals.{else-right-via-then-right+else-series-le65535}
use Rattle.play.proofs.calls.answer_with.Goals.{else-right-via-else-right}
use Rattle.play.proofs.calls.answer_with.Goals as goal

pub returns-then-series-le65535 : goal.returns-then-series-le65535
unfolding answer_with
returns-then-series-le65535 c = search (tests, holds, fails)

pub returns : goal.returns
unfolding answer_with
returns c =
    elim c.else-right.branch [
      | else-right-via-then-right+else-series-le65535 w ↦ search (tests, holds, fails)
      | else-right-via-else-right w ↦ search (tests, holds, fails)
    ]
