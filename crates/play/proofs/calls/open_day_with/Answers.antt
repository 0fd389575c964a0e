use Rattle.ftd.proofs.Tests.{tests}
use Rattle.play.specs.Calls.{open_day_with}
use Rattle.play.proofs.calls.open_day_with.Goals.{then-date-gt4294967295-via-then-date-gt4294967295}
use Rattle.play.proofs.calls.open_day_with.Goals.{then-date-gt4294967295-via-else-date-gt4294967295+then-count-gt64}
use Rattle.play.proofs.calls.open_day_with.Goals as goal

pub returns-then-date-gt4294967295 : goal.returns-then-date-gt4294967295
unfolding open_day_with
returns-then-date-gt4294967295 c =
    elim c.then-date-gt4294967295.branch [
      | then-date-gt4294967295-via-then-date-gt4294967295 w ↦ search tests
      | then-date-gt4294967295-via-else-date-gt4294967295+then-count-gt64 w ↦ search tests
    ]

pub returns : goal.returns
unfolding open_day_with
returns c = search tests
