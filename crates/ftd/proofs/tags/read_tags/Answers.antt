use Prim.Native.Nat.{◌≤◌}
use mathlib.Core.Path.{refl}
use native.Mathlib.Omega.{arith}
use borrow.Author.Rules.{rules}
use Rattle.ftd.specs.Tags.{good_tags}
use Rattle.ftd.proofs.tags.Turns.{tag-head, tags-turn}
use Rattle.ftd.proofs.tags.Walk.{seen_none, seen-turn, seen_all, date-sized, place-sized}
use Rattle.ftd.proofs.tags.Walk.{run-stop, run-dates, run-places, run-whole, run-wrong}
use Rattle.ftd.proofs.tags.read_tags.Goals.{then-at-extension-via-then-at-extension}
use Rattle.ftd.proofs.tags.read_tags.Goals.{then-at-extension-via-else-at-extension+then-dates-gt1}
use Rattle.ftd.proofs.tags.read_tags.Goals.{then-at-extension-via-else-at-extension+else-dates-gt1+then-places-gt1}
use Rattle.ftd.proofs.tags.read_tags.Goals as goal

pub loop-at-init : goal.loop-at-init
unfolding good_tags
loop-at-init c = (
  search rules,
  search rules,
  search rules,
  refl,
  seen_none c.args.extension.now _ _,
  seen_none c.args.extension.now _ _,
)

pub returns-then-at-extension : goal.returns-then-at-extension
returns-then-at-extension c =
    elim c.then-at-extension.branch [
      | then-at-extension-via-then-at-extension w ↦ search (rules, run-stop)
      | then-at-extension-via-else-at-extension+then-dates-gt1 w ↦ search (rules, run-dates)
      | then-at-extension-via-else-at-extension+else-dates-gt1+then-places-gt1 w ↦ search (rules, run-places)
    ]

pub seen_date-requires : goal.seen_date-requires
seen_date-requires c = (search (rules, seen_all, date-sized), search rules)

pub seen_place-requires : goal.seen_place-requires
seen_place-requires c = (search (rules, seen_all, place-sized), search rules)

pub returns-then-n-eq0 : goal.returns-then-n-eq0
returns-then-n-eq0 c = search (rules, run-whole)

pub bounds-extension-at-in-loop-at : goal.bounds-extension-at-in-loop-at
bounds-extension-at-in-loop-at c =
    let h : 2 ≤ c.tag_size-n.result = search (rules, tag-head) in
    omega arith

pub loop-at-preserved : goal.loop-at-preserved
loop-at-preserved c = (
  search rules,
  search rules,
  search rules,
  tags-turn _ _ _ c.tag_size-n.ensures.0 _ _ _ c.loop-at.invariant.3 _ _ c.if-n-eq0.false _ c.length_right.ensures
      c.if-not-length_right.false c.count_kind-dates.ensures.0 c.count_kind-places.ensures.0,
  seen-turn _ _ _ c.tag_size-n.ensures.0 _ _ date-sized _ _ c.loop-at.invariant.4 _ _ c.if-n-eq0.false c.tag_size-n.ensures.1 _
      c.length_right.ensures c.if-not-length_right.false c.count_kind-dates.ensures.0 c.data_place-date.ensures,
  seen-turn _ _ _ c.tag_size-n.ensures.0 _ _ place-sized _ _ c.loop-at.invariant.5 _ _ c.if-n-eq0.false c.tag_size-n.ensures.1 _
      c.length_right.ensures c.if-not-length_right.false c.count_kind-places.ensures.0 c.data_place-place.ensures,
)

pub returns-then-not-length_right : goal.returns-then-not-length_right
returns-then-not-length_right c = search (rules, run-wrong)
