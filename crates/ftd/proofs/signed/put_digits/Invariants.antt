use Prim.Native.Nat.{◌≤◌, ◌+◌}
use mathlib.Core.Path.{◌≡◌}
use lib.ListN.{length}
use Rattle.ftd.specs.Signed.Write.{digits_in}
use Rattle.ftd.specs.Bytes.{put}
use Rattle.ftd.proofs.signed.put_digits.Given as goal

abbrev pub invariant-loop-i : goal.invariant-loop-i
invariant-loop-i l =
    (l.at + l.i ≤ length l.out)
    × (put l.out l.at (digits_in l.i l.left) ≡ put l.initial.out l.at (digits_in l.width l.units))
