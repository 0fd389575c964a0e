use Prim.Native.Nat.{◌-◌, ◌≤◌}
use mathlib.Core.Path.{◌≡◌}
use mathlib.Core.List.{[]}
use lib.ListN.{length, drop}
use Rattle.ftd.specs.Runs.{run_of}
use Rattle.flow.specs.Log.{entry, walk}
use Rattle.flow.proofs.log.Walked.{walk_by}
use Rattle.flow.proofs.log.walk_entries.Given as goal

abbrev pub invariant-loop-e : goal.invariant-loop-e
invariant-loop-e l =
    (l.at ≤ length l.l) × (walk_by l.e l.s l.k l.last (run_of entry (drop l.at l.l)).entries ≡ walk l.e l.s l.k [] (run_of entry l.l).entries)

abbrev pub decreases-loop-e : goal.decreases-loop-e
decreases-loop-e l = length l.l - l.at
