use mathlib.Core.Path.{◌≡◌}
use lib.Seq.{paste}
use Rattle.play.specs.Words.{said_bytes}
use Rattle.play.proofs.words.put_bytes.Given as goal

abbrev pub invariant-loop-i : goal.invariant-loop-i
invariant-loop-i l = l.out ≡ paste l.initial.out l.at (said_bytes l.word) l.i
