use Prim.Native.Nat.{◌-◌, ◌*◌, ◌≤◌}
use mathlib.Core.Path.{◌≡◌}
use lib.ListN.{length, drop}
use Rattle.ftd.specs.Runs.{run_of}
use Rattle.ftd.specs.Chain.Laws.{packet_form}
use Rattle.flow.specs.Several.{receiving, walk_over, receive_several_of}
use Rattle.play.specs.Lines.{received_line}
use Rattle.play.specs.Several.{lines_over, received_lines}
use Rattle.play.proofs.several.Lines.{Completes}
use Rattle.play.proofs.several.receive_packets.Given as goal

abbrev pub invariant-loop-end : goal.invariant-loop-end
invariant-loop-end l =
    (l.at ≤ length l.packets) × (length l.buffer ≡ length l.initial.buffer) × (length l.text ≡ length l.initial.text) × (l.to ≤ 7 * l.at)
    × (l.to ≤ length l.text)
    × (walk_over receiving l.end l.buffer l.at (run_of packet_form (drop l.at l.packets)) ≡ receive_several_of l.initial.end l.packets l.initial.buffer)
    × Completes l.initial.text l.text l.to (lines_over receiving received_line l.end l.buffer l.at (run_of packet_form (drop l.at l.packets)))
    (received_lines l.initial.end l.packets l.initial.buffer)

abbrev pub decreases-loop-end : goal.decreases-loop-end
decreases-loop-end l = length l.packets - l.at
