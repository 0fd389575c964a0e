use Rattle.ftd.proofs.Tests.{tests}
use Rattle.play.specs.Calls.{time_with}
use Rattle.play.proofs.calls.Rows.{holds, fails}
use Rattle.play.proofs.calls.time_with.Goals as goal

pub returns-then-seconds-gt4294967295 : goal.returns-then-seconds-gt4294967295
unfolding time_with
returns-then-seconds-gt4294967295 c = search (tests, holds, fails)

pub returns-then-alone : goal.returns-then-alone
unfolding time_with
returns-then-alone c = search (tests, holds, fails)

pub returns : goal.returns
unfolding time_with
returns c = search (tests, holds, fails)
