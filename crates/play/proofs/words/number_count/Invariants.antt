use Prim.Native.Nat.{◌-◌, ◌+◌}
use mathlib.Core.Path.{◌≡◌}
use Rattle.play.specs.Words.{numbers_behind, number_count}
use Rattle.play.proofs.words.number_count.Given as goal

abbrev pub invariant-loop-n : goal.invariant-loop-n
invariant-loop-n l = numbers_behind l.top l.most l.line l.i l.n ((l.most + 1) - l.n) ≡ number_count l.top l.most l.line l.i
