use borrow.Author.Rules.{rules}
use Rattle.calendar.proofs.holidays.Near.{search-turn, search-start}
use Rattle.calendar.proofs.holidays.next_trading.Goals as goal

pub loop-next-init : goal.loop-next-init
loop-next-init c = (search-start _ _, search rules, search rules)

pub loop-next-preserved : goal.loop-next-preserved
loop-next-preserved c =
    let more =
    search-turn c.args.s.now c.args.day c.loop-next.next c.loop-next.invariant.0 c.loop-next.invariant.1 c.loop-next.invariant.2 _ c.trades.ensures
    c.loop-next-test.true in
    (more.0, search rules, more.1)
