use mathlib.Core.Path.{◌≡◌}
use lib.ListN.{drop}
use lib.Dec.{ltb}
use Rattle.flow.specs.Ends.{sum_of}
use Rattle.flow.specs.Serving.{wrong_reserves}
use Rattle.flow.proofs.room.wrong_reserves.Given as goal

abbrev pub invariant-loop-one : goal.invariant-loop-one
invariant-loop-one l =
    ltb l.left (sum_of (drop l.one-index l.reserves)) ≡ wrong_reserves l.series l.reserves l.log
