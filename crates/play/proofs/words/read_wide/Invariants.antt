use mathlib.Core.Path.{◌≡◌}
use lib.ListN.{drop}
use Rattle.play.specs.Words.{wide_from, wide_in}
use Rattle.play.proofs.words.read_wide.Given as goal

abbrev pub invariant-loop-x : goal.invariant-loop-x
invariant-loop-x l = wide_from l.n (drop l.x-index l.word) ≡ wide_in l.word
