use native.Mathlib.Omega.{arith}
use borrow.Author.Rules.{rules}
use Rattle.fix.proofs.fields.Cuts.{field-within}
use Rattle.fix.proofs.fields.Turns.{first-start, first-over, first-here, first-turn}
use Rattle.fix.proofs.fields.first_field.Goals as goal

pub loop-front-init : goal.loop-front-init
loop-front-init c = (search rules, first-start _ _ _ c.no_last-last.ensures)

pub returns-in_err-front : goal.returns-in_err-front
returns-in_err-front c = first-over _ _ _ _ c.front_at.ensures.0 _ _ c.loop-front.invariant.1 c.in_err-front.was _ (search rules)

pub returns-then-front-tag : goal.returns-then-front-tag
returns-then-front-tag c =
    let h = field-within _ _ c.front_at.ensures.1 _ _ _ c.in_ok-front.was in (
      first-here _ _ _ _ c.front_at.ensures.0 _ _ c.loop-front.invariant.1 _ _ _
          c.in_ok-front.was c.if-front-tag.true,
      omega (arith, h),
    )

pub loop-front-preserved : goal.loop-front-preserved
loop-front-preserved c =
    let h = field-within _ _ c.front_at.ensures.1 _ _ _ c.in_ok-front.was in (
      omega (arith, h),
      first-turn _ _ _ _ c.front_at.ensures.0 _ _ c.loop-front.invariant.1 _ _ _
          c.in_ok-front.was _ c.last_of-last.ensures c.if-front-tag.false,
    )
