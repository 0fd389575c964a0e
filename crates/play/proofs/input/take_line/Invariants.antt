use Prim.Native.Nat.{◌-◌, ◌≤◌}
use mathlib.Core.Path.{◌≡◌}
use lib.ListN.{length}
use Rattle.play.specs.Input.{take_line_of}
use Rattle.play.proofs.input.take_line.Given as goal

abbrev pub invariant-loop-i : goal.invariant-loop-i
invariant-loop-i l =
    (l.at ≤ l.i) × (length l.line ≡ length l.initial.line) × (take_line_of l.input l.i l.line l.n ≡ take_line_of l.input l.at l.initial.line l.have)

abbrev pub decreases-loop-i : goal.decreases-loop-i
decreases-loop-i l = length l.input - l.i
