use Prim.Native.Nat.{◌-◌, ◌≤◌}
use mathlib.Core.Path.{◌≡◌}
use lib.ListN.{length}
use Rattle.relay.proofs.several.Turns.{Left}
use Rattle.relay.proofs.relay.Relay.receive_several.Given as goal

abbrev pub invariant-loop-end : goal.invariant-loop-end
invariant-loop-end l =
    (l.at ≤ length l.packets) × (length l.log ≡ length l.initial.log) × (length l.buffer ≡ length l.initial.buffer)
    × Left l.initial.end l.packets l.initial.log l.initial.buffer l.end l.log l.buffer l.at

abbrev pub decreases-loop-end : goal.decreases-loop-end
decreases-loop-end l = length l.packets - l.at
