use mathlib.Core.Path.{refl}
use native.Mathlib.Omega.{arith}
use borrow.Author.Rules.{rules}
use Rattle.flow.proofs.order.Walked.{none_left, next-over, next-long, next_here, next_past}
use Rattle.flow.proofs.order.next_of.Goals as goal

pub returns-then-left-eq0 : goal.returns-then-left-eq0
returns-then-left-eq0 c = search (rules, none_left)

pub loop-from-init : goal.loop-from-init
loop-from-init c = refl

pub returns-then-n-eq0 : goal.returns-then-n-eq0
returns-then-n-eq0 c = search (rules, next-over)

pub be16-requires : goal.be16-requires
be16-requires c =
    let z = c.if-n-eq0.false in
    let h = next-long c.args.l.now c.args.series c.args.left c.loop-from.at c.entry_size-n.result c.entry_size-n.ensures.0 _ c.loop-from.invariant z in
    omega (arith, h, c.entry_size-n.ensures.1)

pub returns-then-be16-series : goal.returns-then-be16-series
returns-then-be16-series c =
    next_here c.args.l.now c.args.series c.args.left c.loop-from.at c.entry_size-n.result c.entry_size-n.ensures.0 _ c.loop-from.invariant
    c.if-n-eq0.false c.if-left-eq0.false _ c.be16.ensures
    c.if-be16-series.true

pub loop-from-preserved : goal.loop-from-preserved
loop-from-preserved c = search (rules, next_past)
