use borrow.Author.Rules.{rules}
use Rattle.ftd.proofs.chain.Sizes.{counted_none, counted-last, counted-broken, counted-turn}
use Rattle.ftd.proofs.chain.measure.Goals as goal

pub loop-c-init : goal.loop-c-init
loop-c-init c = (search rules, search rules, search rules, counted_none _ _)

pub returns-then-c-content : goal.returns-then-c-content
returns-then-c-content c = search (rules, counted-last)

pub returns-then-c-at : goal.returns-then-c-at
returns-then-c-at c = search (rules, counted-broken)

pub loop-c-preserved : goal.loop-c-preserved
loop-c-preserved c = (search rules, search rules, search rules, search (rules, counted-turn))
