use Prim.Native.Nat.{◌-◌, ◌≤◌}
use mathlib.Core.Path.{◌≡◌}
use lib.ListN.{length, drop}
use Rattle.fix.specs.Fields.{cut_from}
use Rattle.fix.specs.Tally.{walked_of}
use Rattle.fix.proofs.tally.Turns.{walked_from}
use Rattle.fix.proofs.tally.walk.Given as goal

abbrev pub invariant-loop-tag : goal.invariant-loop-tag
invariant-loop-tag l =
    (l.at ≤ length l.run) × (walked_from l.kind l.tally (cut_from l.last (drop l.at l.run)) ≡ walked_of l.kind l.run)

abbrev pub decreases-loop-tag : goal.decreases-loop-tag
decreases-loop-tag l = length l.run - l.at
