use Rattle.ftd.proofs.Tests.{tests}
use Rattle.play.specs.Calls.{level_with}
use Rattle.play.proofs.calls.Rows.{holds, fails}
use Rattle.play.proofs.calls.level_with.Goals.{then-buying, else-buying}
use Rattle.play.proofs.calls.level_with.Goals.{else-right-via-then-right+then-place-le4294967295+else-selling}
use Rattle.play.proofs.calls.level_with.Goals.{else-right-via-then-right+else-place-le4294967295}
use Rattle.play.proofs.calls.level_with.Goals.{else-right-via-else-right}
use Rattle.play.proofs.calls.level_with.Goals as goal

pub returns-then-selling : goal.returns-then-selling
unfolding level_with
returns-then-selling c =
    elim c.if-buying.branch [
      | then-buying w ↦ rw w.if-buying.true (search (tests, holds, fails))
      | else-buying w ↦ rw w.if-buying.false (search (tests, holds, fails))
    ]

pub returns : goal.returns
unfolding level_with
returns c =
    elim c.else-right.branch [
      | else-right-via-then-right+then-place-le4294967295+else-selling w ↦
          elim w.if-buying.branch [
            | then-buying x ↦ search (tests, holds, fails)
            | else-buying x ↦ search (tests, holds, fails)
          ]
      | else-right-via-then-right+else-place-le4294967295 w ↦ search (tests, holds, fails)
      | else-right-via-else-right w ↦ search (tests, holds, fails)
    ]
