use mathlib.Core.Path.{◌≡◌}
use lib.ListN.{drop}
use Rattle.flow.specs.Ends.{differing}
use Rattle.flow.proofs.series.stands_twice.Given as goal

abbrev pub invariant-loop-i : goal.invariant-loop-i
invariant-loop-i l = differing (drop l.i l.series) ≡ differing l.series
