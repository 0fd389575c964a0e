use Prim.Native.Nat.{◌≤◌}
use mathlib.Core.Path.{refl}
use native.Mathlib.Omega.{arith}
use borrow.Author.Rules.{rules}
use Rattle.ftd.specs.Items.{walk_of}
use Rattle.ftd.proofs.items.Walk.{items-end, items-wrong, items-turn, walk-over, walk-unknown, walk-items}
use Rattle.ftd.proofs.fields.Turns.{field-head}
use Rattle.ftd.proofs.items.walk_items.Goals as goal

pub walk-init : goal.walk-init
unfolding walk_of
walk-init c = (search rules, refl)

pub be32-fid-requires : goal.be32-fid-requires
be32-fid-requires c = let h : 6 ≤ c.field_size-n.result = search (rules, field-head) in
    omega arith

pub walk-preserved-then-fid-gt-LAST_FID : goal.walk-preserved-then-fid-gt-LAST_FID
walk-preserved-then-fid-gt-LAST_FID c = (search rules, search (rules, walk-unknown))

pub overflow_add-pos : goal.overflow_add-pos
overflow_add-pos c = let h : 6 ≤ c.field_size-n.result = search (rules, field-head) in
    omega arith

pub items-init : goal.items-init
items-init c =
    let h : 6 ≤ c.field_size-n.result = search
    (rules, field-head) in
    (omega arith, search rules, search rules, search (rules, walk-items))

pub overflow_add-pos-in-items : goal.overflow_add-pos-in-items
overflow_add-pos-in-items c = omega (arith, c.item_good.ensures.1 c.if-not-item_good.false)

pub items-preserved : goal.items-preserved
items-preserved c = (
  omega (arith, c.item_good.ensures.1 c.if-not-item_good.false),
  search rules,
  search rules,
  search (rules, items-turn),
)

pub walk-preserved : goal.walk-preserved
walk-preserved c = (search rules, search (rules, items-end))

pub returns-then-n-eq0 : goal.returns-then-n-eq0
returns-then-n-eq0 c = search (rules, walk-over)

pub returns-then-not-item_good : goal.returns-then-not-item_good
returns-then-not-item_good c = search (rules, items-wrong)
