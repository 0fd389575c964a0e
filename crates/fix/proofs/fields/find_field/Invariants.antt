use Prim.Native.Nat.{◌-◌, ◌≤◌}
use mathlib.Core.Path.{◌≡◌}
use lib.ListN.{length, drop}
use Rattle.fix.specs.Fields.{cut_from, place_in, place_of}
use Rattle.fix.proofs.fields.find_field.Given as goal

abbrev pub invariant-loop-tag : goal.invariant-loop-tag
invariant-loop-tag l =
    (l.at ≤ length l.run) × (place_in l.at (cut_from l.last (drop l.at l.run)).fields l.left ≡ place_of l.run l.i)

abbrev pub decreases-loop-tag : goal.decreases-loop-tag
decreases-loop-tag l = length l.run - l.at
