use Prim.Native.Nat.{◌<◌, ◌≤◌}
use mathlib.Core.Path.{◌≡◌}
use lib.ListN.{length, drop}
use Rattle.fix.specs.Text.{number_from, number_in}
use Rattle.fix.proofs.text.Turns.{power}
use Rattle.fix.proofs.text.number_in.Given as goal

abbrev pub invariant-loop-c : goal.invariant-loop-c
invariant-loop-c l =
    (length l.s ≤ 9) × (l.n < power l.c-index) × (number_from l.n (drop l.c-index l.s) ≡ number_in l.s)
