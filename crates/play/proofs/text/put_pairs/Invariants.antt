use Prim.Native.Nat.{◌+◌, ◌*◌}
use mathlib.Core.Path.{◌≡◌}
use lib.ListN.{take}
use Rattle.listing.specs.Text.{WroteText}
use Rattle.play.specs.Lines.{hex_bytes}
use Rattle.play.proofs.text.put_pairs.Given as goal

abbrev pub invariant-loop-x : goal.invariant-loop-x
invariant-loop-x l = (l.to ≡ l.at + 2 * l.x-index)
    × WroteText l.initial.out l.at (hex_bytes (take l.x-index l.bytes)) l.out l.to
