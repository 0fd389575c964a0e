use Rattle.ftd.proofs.Tests.{tests}
use Rattle.play.specs.Calls.{buffers_with}
use Rattle.play.proofs.calls.Rows.{holds, fails}
use Rattle.play.proofs.calls.buffers_with.Goals.{else-right-via-then-right+then-log-le1048576+else-chain-le262144}
use Rattle.play.proofs.calls.buffers_with.Goals.{else-right-via-then-right+else-log-le1048576}
use Rattle.play.proofs.calls.buffers_with.Goals.{else-right-via-else-right}
use Rattle.play.proofs.calls.buffers_with.Goals as goal

pub returns-then-chain-le262144 : goal.returns-then-chain-le262144
unfolding buffers_with
returns-then-chain-le262144 c = search (tests, holds, fails)

pub returns : goal.returns
unfolding buffers_with
returns c =
    elim c.else-right.branch [
      | else-right-via-then-right+then-log-le1048576+else-chain-le262144 w ↦ search (tests, holds, fails)
      | else-right-via-then-right+else-log-le1048576 w ↦ search (tests, holds, fails)
      | else-right-via-else-right w ↦ search (tests, holds, fails)
    ]
