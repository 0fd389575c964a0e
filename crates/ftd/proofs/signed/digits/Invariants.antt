use Prim.Native.Nat.{◌+◌, ◌-◌, ◌*◌, ◌≤◌}
use mathlib.Core.Path.{◌≡◌}
use lib.ListN.{length, drop}
use Rattle.ftd.specs.Signed.{pow10, digits_of}
use Rattle.ftd.proofs.signed.digits.Given as goal

abbrev pub invariant-loop-b : goal.invariant-loop-b
invariant-loop-b l =
    ((l.n + 1) * pow10 (length l.b-items - l.b-index) ≤ (l.start + 1) * pow10 (length l.b-items))
    × (digits_of l.n (drop l.b-index l.b-items) ≡ digits_of l.start l.b-items)
