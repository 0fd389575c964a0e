use borrow.Author.Rules.{rules}
use Rattle.flow.proofs.series.Rule.{twice-here, twice-turn}
use Rattle.flow.proofs.series.stands_twice.Goals as goal

pub returns-then-contains : goal.returns-then-contains
returns-then-contains c =
    twice-here c.args.series.now c.loop-i.i c.loop-i.invariant c.contains.result (search rules) c.contains.ensures.value c.if-contains.true

pub loop-i-preserved : goal.loop-i-preserved
loop-i-preserved c =
    twice-turn c.args.series.now c.loop-i.i c.loop-i.invariant c.contains.result (search rules) c.contains.ensures.value c.if-contains.false
