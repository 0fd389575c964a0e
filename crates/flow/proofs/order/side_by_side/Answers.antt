use borrow.Author.Rules.{rules}
use Rattle.flow.proofs.order.Walked.{next-left, both-begin, they_differ, they-agree}
use Rattle.flow.proofs.order.side_by_side.Goals as goal

pub loop-x-init : goal.loop-x-init
loop-x-init c =
    (search rules, search rules, both-begin c.args.series c.args.first c.args.second c.args.l.now c.args.m.now)

pub returns-then-not-same_message : goal.returns-then-not-same_message
returns-then-not-same_message c = search (rules, they_differ)

pub loop-x-preserved : goal.loop-x-preserved
loop-x-preserved c = (search (rules, next-left), search (rules, next-left), search (rules, they-agree))
