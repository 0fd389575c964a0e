use Prim.Native.Nat.{◌-◌, ◌+◌}
use mathlib.Core.Path.{◌≡◌}
use Rattle.play.specs.Words.{all_bytes}
use Rattle.play.proofs.words.all_bytes.Given as goal

abbrev pub invariant-loop-j : goal.invariant-loop-j
invariant-loop-j l = all_bytes l.line (l.i + l.j) (l.k - l.j) ≡ all_bytes l.line l.i l.k
