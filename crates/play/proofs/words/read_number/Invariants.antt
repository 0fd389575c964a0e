use Prim.Native.Nat.{◌<◌}
use mathlib.Core.Path.{◌≡◌}
use lib.ListN.{drop}
use Rattle.play.specs.Words.{digits_from, number_in}
use Rattle.play.proofs.words.read_number.Given as goal

abbrev pub invariant-loop-x : goal.invariant-loop-x
invariant-loop-x l = (l.n < 4294967296) × (digits_from l.base l.n (drop l.x-index l.word) ≡ number_in l.base l.word)
