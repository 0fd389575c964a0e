use native.Mathlib.Omega.{arith}
use borrow.Author.Rules.{rules}
use Rattle.fix.proofs.fields.Cuts.{field-within}
use Rattle.fix.proofs.fields.Turns.{place-start, place-over, place_here, place-turn}
use Rattle.fix.proofs.fields.find_field.Goals as goal

pub loop-tag-init : goal.loop-tag-init
loop-tag-init c = (search rules, place-start _ _ _ c.no_last-last.ensures)

pub returns-in_err-tag : goal.returns-in_err-tag
returns-in_err-tag c = place-over _ _ _ _ c.front_at.ensures.0 _ _ c.loop-tag.invariant.1 c.in_err-tag.was _ (search rules)

pub returns-then-left-eq0 : goal.returns-then-left-eq0
returns-then-left-eq0 c =
    let h = field-within _ _ c.front_at.ensures.1 _ _ _ c.in_ok-tag.was in (
      place_here _ _ _ _ c.front_at.ensures.0 _ _ c.loop-tag.invariant.1 _ _ _
          c.in_ok-tag.was c.if-left-eq0.true,
      omega (arith, h),
    )

pub loop-tag-preserved : goal.loop-tag-preserved
loop-tag-preserved c =
    let h = field-within _ _ c.front_at.ensures.1 _ _ _ c.in_ok-tag.was in (
      omega (arith, h),
      place-turn _ _ _ _ c.front_at.ensures.0 _ _ c.loop-tag.invariant.1 _ _ _
          c.in_ok-tag.was c.if-left-eq0.false _ c.last_of-last.ensures,
    )
