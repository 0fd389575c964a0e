use native.Mathlib.Omega.{arith}
use mathlib.Core.Path.{sym, ◌∙◌}
use lib.ListN.{length-set}
use Rattle.play.proofs.input.Turns.{over, end, laid, too_long}
use Rattle.play.proofs.input.take_line.Goals as goal

pub returns-then-x-eq10 : goal.returns-then-x-eq10
returns-then-x-eq10 c = (
  λ h. omega (arith, c.loop-i.invariant.0),
  c.loop-i.invariant.1,
  sym (end _ c.loop-i.i c.loop-i.line c.loop-i.n c.loop-i-test.true c.if-x-eq10.true) ∙ c.loop-i.invariant.2,
)

pub loop-i-preserved-then-n-line : goal.loop-i-preserved-then-n-line
loop-i-preserved-then-n-line c = (
  omega (arith, c.loop-i.invariant.0),
  length-set c.loop-i.line c.loop-i.n _ ∙ c.loop-i.invariant.1,
  sym
      (laid _ c.loop-i.i c.loop-i.line c.loop-i.n c.loop-i-test.true c.if-x-eq10.false
      c.if-n-line.true)
      ∙ c.loop-i.invariant.2,
)

pub loop-i-preserved : goal.loop-i-preserved
loop-i-preserved c = (
  omega (arith, c.loop-i.invariant.0),
  c.loop-i.invariant.1,
  sym
      (too_long _ c.loop-i.i c.loop-i.line c.loop-i.n c.loop-i-test.true c.if-x-eq10.false
      c.if-n-line.false)
      ∙ c.loop-i.invariant.2,
)

pub returns : goal.returns
returns c =
    let l = c.loop-i-test.false in (
      λ h. omega (arith, h, l),
      c.loop-i.invariant.1,
      sym (over _ c.loop-i.i c.loop-i.line c.loop-i.n l) ∙ c.loop-i.invariant.2,
    )
