use Prim.Native.Nat.{◌≤◌}
use mathlib.Core.Path.{◌≡◌}
use lib.ListN.{drop}
use lib.Dec.{ltb}
use Rattle.flow.specs.Ends.{sum_of}
use Rattle.flow.specs.ShareHelpers.{shares_in}
use Rattle.flow.proofs.room.Places.{shares}
use Rattle.flow.proofs.room.over_shares.Given as goal

abbrev pub invariant-loop-i : goal.invariant-loop-i
invariant-loop-i l =
    (l.left ≤ l.room) × (ltb l.left (sum_of (drop l.i (shares l.fn.day l.at l.more))) ≡ ltb l.room (shares_in l.fn.day l.at l.more))
