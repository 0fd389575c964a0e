use mathlib.Core.Path.{◌≡◌}
use mathlib.Core.List.{map}
use lib.ListN.{take}
use Rattle.flow.specs.Ends.{filled, new_kept}
use Rattle.flow.proofs.receiver.new_kept.Given as goal

abbrev pub invariant-loop-i : goal.invariant-loop-i
invariant-loop-i l = l.all ≡ filled (new_kept 0) (map new_kept (take l.i l.series))
