use Rattle.ftd.proofs.Tests.{tests}
use Rattle.play.specs.Calls.{plain_call}
use Rattle.play.proofs.calls.Rows.{holds, fails}
use Rattle.play.proofs.calls.plain_call.Goals as goal

pub returns-then-right : goal.returns-then-right
unfolding plain_call
returns-then-right c = search (tests, holds, fails)

pub returns : goal.returns
unfolding plain_call
returns c = search (tests, holds, fails)
