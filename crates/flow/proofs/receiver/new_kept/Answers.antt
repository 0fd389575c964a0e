use borrow.Author.Rules.{rules}
use Rattle.flow.specs.Ends.{new_kept}
use Rattle.flow.proofs.series.Filled.{filled-turn, filled-end}
use Rattle.flow.proofs.receiver.new_kept.Goals as goal

pub loop-i-preserved : goal.loop-i-preserved
loop-i-preserved c =
    rw c.new.ensures
    (filled-turn (new_kept 0) new_kept c.args.series.now c.loop-i.i c.loop-i.all c.loop-i.invariant (search rules) (search rules))

pub returns : goal.returns
returns c = search (rules, filled-end)
