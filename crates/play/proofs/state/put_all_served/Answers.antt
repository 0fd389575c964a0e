use borrow.Author.Rules.{rules}
use native.Mathlib.Omega.{arith}
use Rattle.play.specs.State.{served_at, served_lines}
use Rattle.play.proofs.state.Turns.{lines-first, lines-turn, lines-over}
use Rattle.play.proofs.state.put_all_served.Goals as goal

pub loop-i-init : goal.loop-i-init
loop-i-init c = (search rules, search (rules, lines-first))

pub loop-i-preserved : goal.loop-i-preserved
loop-i-preserved c = (
  search rules,
  lines-turn (served_at c.args.sender.day.series c.args.sender.seat.places) c.loop-i.i (omega arith) c.loop-i.invariant.1 c.put_served-to.ensures.0,
)

pub returns : goal.returns
unfolding served_lines
returns c = (search (rules, lines-over), search rules)
