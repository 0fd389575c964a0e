-- The text up to `to` and the lines from `at` on are the listing. The measure is what is left of the capture.
use Rattle.std.proofs.Common.{◌-◌, ◌≡◌, ◌≤◌, length}
use Rattle.captures.proofs.Compared.{SoFar}
use Rattle.captures.proofs.lists.Given as goal

abbrev pub invariant-loop-len : goal.invariant-loop-len
invariant-loop-len l = (64 ≡ length l.out) × (l.to ≤ length l.text) × SoFar l.capture l.more l.text l.at l.to

abbrev pub decreases-loop-len : goal.decreases-loop-len
decreases-loop-len l = length l.capture - l.at
