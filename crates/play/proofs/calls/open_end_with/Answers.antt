use Rattle.ftd.proofs.Tests.{tests}
use Rattle.play.specs.Calls.{open_end_with}
use Rattle.play.proofs.calls.open_end_with.Goals as goal

pub returns-then-count-gt64 : goal.returns-then-count-gt64
unfolding open_end_with
returns-then-count-gt64 c = search tests

pub returns : goal.returns
unfolding open_end_with
returns c = search tests
