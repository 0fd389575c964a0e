use Prim.Native.Nat.{◌+◌, ◌≤◌}
use mathlib.Core.Path.{◌≡◌}
use lib.ListN.{length}
use Rattle.play.specs.Words.{end_at}
use Rattle.play.proofs.words.end_at.Given as goal

abbrev pub invariant-loop : goal.invariant-loop
invariant-loop l = (l.e ≡ end_at l.line l.counter) × (l.e ≤ length l.line + 1)
