use mathlib.Core.Path.{◌≡◌}
use lib.ListN.{take}
use Rattle.flow.specs.Ends.{filled, no_series, opened_series}
use Rattle.flow.proofs.sender.new_places.Given as goal

abbrev pub invariant-loop-i : goal.invariant-loop-i
invariant-loop-i l =
    l.all ≡ filled no_series (opened_series (take l.i l.series) l.reserves)
