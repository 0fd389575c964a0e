use Prim.Native.Nat.{◌-◌, ◌*◌, ◌≤◌}
use lib.ListN.{length}
use Rattle.ftd.proofs.chain.Sizes.{Counted}
use Rattle.ftd.proofs.chain.measure.Given as goal

abbrev pub invariant-loop-c : goal.invariant-loop-c
invariant-loop-c l =
    (l.at ≤ length l.content) × (l.packets ≤ l.at) × (l.bytes ≤ 31 * l.at) × Counted l.content l.tags l.at l.packets l.bytes

abbrev pub decreases-loop-c : goal.decreases-loop-c
decreases-loop-c l = length l.content - l.at
