use Prim.Native.Nat.{◌-◌}
use mathlib.Core.Path.{◌≡◌}
use Rattle.play.specs.Words.{shares_behind, share_count}
use Rattle.play.proofs.words.share_count.Given as goal

abbrev pub invariant-loop-n : goal.invariant-loop-n
invariant-loop-n l = shares_behind l.line l.i l.n (65 - l.n) ≡ share_count l.line l.i
