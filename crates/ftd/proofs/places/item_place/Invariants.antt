use Prim.Native.Nat.{◌-◌, ◌≤◌, ◌*◌}
use mathlib.Core.Path.{◌≡◌}
use lib.ListN.{take, drop}
use Rattle.ftd.specs.Places.{item_in, item_of}
use Rattle.ftd.specs.Table.{table}
use Rattle.ftd.proofs.places.item_place.Given as goal

abbrev pub invariant-loop-row : goal.invariant-loop-row
invariant-loop-row l =
    (l.row-end ≤ 379) × (l.at ≤ l.row * 65536) × (item_in l.at (take (l.row-end - l.row) (drop l.row table)) l.left ≡ item_of l.fid l.i)
