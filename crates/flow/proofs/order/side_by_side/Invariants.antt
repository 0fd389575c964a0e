use Prim.Native.Nat.{suc, ◌-◌, ◌≤◌}
use mathlib.Core.Path.{◌≡◌}
use lib.ListN.{take, drop}
use Rattle.flow.specs.Order.{order_from}
use Rattle.flow.specs.OrderHelpers.{messages_in}
use Rattle.flow.proofs.order.side_by_side.Given as goal

abbrev pub invariant-loop-x : goal.invariant-loop-x
invariant-loop-x l =
    (l.k ≤ l.first) × (l.k ≤ l.second)
    × (order_from (suc l.k) (take (l.first - l.k) (messages_in l.series (drop l.at l.l)))
    (take (l.second - l.k) (messages_in l.series (drop l.to l.m)))
    ≡ order_from 1 (take l.first (messages_in l.series l.l)) (take l.second (messages_in l.series l.m)))

abbrev pub decreases-loop-x : goal.decreases-loop-x
decreases-loop-x l = l.first - l.k
