use mathlib.Core.Path.{◌≡◌}
use mathlib.Core.List.{◌++◌}
use lib.ListN.{drop}
use Rattle.play.specs.Words.{series_from}
use Rattle.play.proofs.words.read_series.Given as goal

abbrev pub invariant-loop-k : goal.invariant-loop-k
invariant-loop-k l = l.x-items ≡ series_from l.line l.i l.k ++ drop l.k l.initial.x-items
