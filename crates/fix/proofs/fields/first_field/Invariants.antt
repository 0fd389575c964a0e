use Prim.Native.Nat.{◌-◌, ◌≤◌}
use mathlib.Core.Path.{◌≡◌}
use lib.ListN.{length, drop}
use Rattle.fix.specs.Fields.{cut_from, first_in, first_of}
use Rattle.fix.proofs.fields.first_field.Given as goal

abbrev pub invariant-loop-front : goal.invariant-loop-front
invariant-loop-front l =
    (l.at ≤ length l.run) × (first_in l.at (cut_from l.last (drop l.at l.run)).fields l.tag ≡ first_of l.run l.tag)

abbrev pub decreases-loop-front : goal.decreases-loop-front
decreases-loop-front l = length l.run - l.at
