use Prim.Native.Nat.{◌-◌, ◌≤◌}
use mathlib.Core.Path.{◌≡◌}
use lib.ListN.{length, drop}
use Rattle.ftd.specs.Runs.{run_of}
use Rattle.ftd.specs.Fields.{field, shapely, shaped}
use Rattle.ftd.proofs.fields.is_shaped.Given as goal

abbrev pub invariant-loop-limit : goal.invariant-loop-limit
invariant-loop-limit l = (l.at ≤ length l.content) × (shapely (run_of field (drop l.at l.content)) ≡ shaped l.content l.limit)

abbrev pub decreases-loop-limit : goal.decreases-loop-limit
decreases-loop-limit l = length l.content - l.at
