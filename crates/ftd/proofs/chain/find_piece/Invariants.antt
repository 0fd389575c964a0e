use Prim.Native.Nat.{◌+◌, ◌-◌, ◌≤◌}
use mathlib.Core.Path.{◌≡◌}
use mathlib.Core.Bool.{true}
use lib.ListN.{length, drop}
use Rattle.ftd.specs.Chain.{pieces_of}
use Rattle.ftd.specs.Runs.{run_of}
use Rattle.ftd.specs.Fields.{field, shapely}
use Rattle.ftd.proofs.chain.find_piece.Given as goal

abbrev pub invariant-loop-left : goal.invariant-loop-left
invariant-loop-left l =
    (l.at ≤ length l.content) × (l.left ≤ l.i) × (shapely (run_of field (drop l.at l.content)) ≡ true)
    × (drop (l.i - l.left) (pieces_of l.content) ≡ pieces_of (drop l.at l.content)) × (l.i ≤ l.at + l.left)

abbrev pub decreases-loop-left : goal.decreases-loop-left
decreases-loop-left l = length l.content - l.at
