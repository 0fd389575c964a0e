use mathlib.Core.Path.{◌≡◌}
use lib.ListN.{drop}
use Rattle.play.specs.Calls.{verb_of}
use Rattle.play.proofs.calls.Verbs.{named}
use Rattle.play.proofs.calls.verb_of.Given as goal

abbrev pub invariant-loop-name : goal.invariant-loop-name
invariant-loop-name l = named (drop l.name-index l.name-items) l.word ≡ verb_of l.word
