use Prim.Native.Nat.{◌+◌, ◌-◌, ◌≤◌}
use mathlib.Core.Path.{◌≡◌}
use lib.ListN.{length, drop}
use Rattle.ftd.specs.Chain.{pack, pieces_of}
use Rattle.ftd.specs.Runs.{run_of}
use Rattle.ftd.specs.Fields.{field, fields_of, shapely}
use Rattle.ftd.proofs.chain.Cuts.{begun}
use Rattle.ftd.proofs.chain.next_piece.Given as goal

abbrev pub invariant-loop-at : goal.invariant-loop-at
invariant-loop-at l =
    (l.at ≤ l.end) × (l.end ≤ length l.content) × (l.count ≤ l.end - l.at) × (l.end ≤ l.at + 4080)
    × (shapely (run_of field (drop l.end l.content)) ≡ shapely (run_of field (drop l.at l.content)))
    × (pack (begun l.content l.at l.end l.count) (fields_of (drop l.end l.content)) ≡ pieces_of (drop l.at l.content))

abbrev pub decreases-loop-at : goal.decreases-loop-at
decreases-loop-at l = length l.content - l.end
