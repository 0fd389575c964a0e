-- The measure is what is left of the piece.
use Rattle.std.proofs.Common.{length, ◌-◌}
use Rattle.ftdplay.proofs.print_piece.Given as goal

abbrev pub decreases-loop-at : goal.decreases-loop-at
decreases-loop-at g l = length l.input - l.at
