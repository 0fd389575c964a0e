-- The measure is what is left of the capture.
use Rattle.std.proofs.Common.{◌≡◌, ◌-◌, length}
use Rattle.ftdlist.proofs.print_lines.Given as goal

abbrev pub invariant-loop-len : goal.invariant-loop-len
invariant-loop-len g l = 64 ≡ length l.out

abbrev pub decreases-loop-len : goal.decreases-loop-len
decreases-loop-len g l = length l.capture - l.at
