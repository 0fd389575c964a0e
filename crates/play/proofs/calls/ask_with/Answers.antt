use Rattle.ftd.proofs.Tests.{tests}
use Rattle.play.specs.Calls.{ask_with}
use Rattle.play.proofs.calls.Rows.{holds, fails}
use Rattle.play.proofs.calls.ask_with.Goals.{else-right-via-then-right+then-series-le65535+else-room-le65536}
use Rattle.play.proofs.calls.ask_with.Goals.{else-right-via-then-right+else-series-le65535}
use Rattle.play.proofs.calls.ask_with.Goals.{else-right-via-else-right}
use Rattle.play.proofs.calls.ask_with.Goals as goal

pub returns-then-room-le65536 : goal.returns-then-room-le65536
unfolding ask_with
returns-then-room-le65536 c = search (tests, holds, fails)

pub returns : goal.returns
unfolding ask_with
returns c =
    elim c.else-right.branch [
      | else-right-via-then-right+then-series-le65535+else-room-le65536 w ↦ search (tests, holds, fails)
      | else-right-via-then-right+else-series-le65535 w ↦ search (tests, holds, fails)
      | else-right-via-else-right w ↦ search (tests, holds, fails)
    ]
