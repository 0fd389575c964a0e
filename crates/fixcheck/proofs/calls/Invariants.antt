-- The measure is what is left of the input.
use Rattle.std.proofs.Common.{length}
use Rattle.fixcheck.proofs.calls.Given as goal

abbrev pub decreases-loop-n : goal.decreases-loop-n
decreases-loop-n g l = length l.rest
