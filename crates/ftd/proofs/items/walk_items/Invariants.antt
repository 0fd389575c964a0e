use Prim.Native.Nat.{◌-◌, ◌≤◌}
use mathlib.Core.Bool.{cond}
use mathlib.Core.Path.{◌≡◌}
use lib.ListN.{length, take, drop}
use Rattle.ftd.specs.declared.refusal.Refusal.TheVariants.{Item}
use Rattle.ftd.specs.Items.{items_good, walk_fields, walk_of}
use Rattle.ftd.specs.Table.{table}
use Rattle.ftd.specs.Fields.{field}
use Rattle.ftd.specs.Runs.{run_of}
use Rattle.ftd.proofs.items.walk_items.Given as goal
use Rattle.std.specs.Prelude.{Err}

abbrev pub invariant-items : goal.invariant-items
invariant-items l =
    (l.pos ≤ l.end) × (l.end ≤ length l.content) × (l.row-end ≤ 379)
    × (cond (items_good (take (l.row-end - l.row) (drop l.row table)) (drop l.pos (take l.end l.content)))
    (walk_fields (run_of field (drop l.end l.content)).entries) (Err Item) ≡ walk_of l.content)

abbrev pub invariant-walk : goal.invariant-walk
invariant-walk l =
    (l.at ≤ length l.content) × (walk_fields (run_of field (drop l.at l.content)).entries ≡ walk_of l.content)

abbrev pub decreases-walk : goal.decreases-walk
decreases-walk l = length l.content - l.at
