use Prim.Native.Nat.{◌-◌}
use mathlib.Core.Path.{◌≡◌}
use lib.ListN.{length, take, drop}
use Rattle.flow.specs.OrderHelpers.{messages_in}
use Rattle.flow.proofs.order.next_of.Given as goal

abbrev pub invariant-loop-from : goal.invariant-loop-from
invariant-loop-from l =
    take l.left (messages_in l.series (drop l.at l.l)) ≡ take l.left (messages_in l.series (drop l.from l.l))

abbrev pub decreases-loop-from : goal.decreases-loop-from
decreases-loop-from l = length l.l - l.at
