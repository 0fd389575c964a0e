use native.Mathlib.Omega.{arith}
use borrow.Author.Rules.{rules}
use Rattle.fix.proofs.fields.Cuts.{field-within}
use Rattle.fix.proofs.tally.Turns.{walk_start, walk-over, walk_turn}
use Rattle.fix.proofs.tally.walk.Goals as goal

pub loop-tag-init : goal.loop-tag-init
loop-tag-init c = (search rules, walk_start _ _ _ _ c.no_last-last.ensures c.no_tally-tally.ensures)

pub returns-in_default : goal.returns-in_default
returns-in_default c =
    walk-over _ _ _ _ _ c.front_at.ensures.0 _ _ c.loop-tag.invariant.1
    c.in_default.is c.loop-tag.invariant.0

pub loop-tag-preserved : goal.loop-tag-preserved
loop-tag-preserved c =
    let h = field-within _ _ c.front_at.ensures.1 _ _ _ c.in-Some.is in (
      omega (arith, h),
      walk_turn _ _ _ _ _ c.front_at.ensures.0 _ _ c.loop-tag.invariant.1 _ _ _
          c.in-Some.is _ c.number_in.ensures.0 _ c.is_yes.ensures _ c.tallied-tally.ensures _
          c.last_of-last.ensures,
    )
