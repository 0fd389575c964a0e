use Prim.Native.Nat.{◌+◌, ◌-◌, ◌≤◌}
use mathlib.Core.Path.{◌≡◌}
use mathlib.Core.Bool.{◌&&◌}
use lib.Dec.{eqb}
use lib.ListN.{length, drop}
use Rattle.ftd.specs.Runs.{run_of, ended}
use Rattle.ftd.specs.Fields.{field, exact_run}
use Rattle.ftd.proofs.fields.exact_run.Given as goal

abbrev pub invariant-loop-count : goal.invariant-loop-count
invariant-loop-count l =
    (l.at ≤ length l.content) × (l.seen ≤ l.at)
    × ((ended (run_of field (drop l.at l.content))
    && eqb (l.seen + length (run_of field (drop l.at l.content)).entries) l.most) ≡ exact_run l.content l.count)

abbrev pub decreases-loop-count : goal.decreases-loop-count
decreases-loop-count l = length l.content - l.at
