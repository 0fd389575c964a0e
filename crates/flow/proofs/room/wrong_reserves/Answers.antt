use borrow.Author.Rules.{rules}
use Rattle.flow.proofs.room.Sums.{reserves-count, reserves-else, sum_over, sum-turn, sum-end}
use Rattle.flow.proofs.room.wrong_reserves.Goals as goal

pub returns-then-reserves-series : goal.returns-then-reserves-series
returns-then-reserves-series c = search (rules, reserves-count)

pub loop-one-init : goal.loop-one-init
loop-one-init c = search (rules, reserves-else)

pub returns-then-left-one : goal.returns-then-left-one
returns-then-left-one c = search (rules, sum_over)

pub loop-one-preserved : goal.loop-one-preserved
loop-one-preserved c = search (rules, sum-turn)

pub returns : goal.returns
returns c = search (rules, sum-end)
