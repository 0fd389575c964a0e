use borrow.Author.Rules.{rules}
use native.Mathlib.Omega.{arith}
use Rattle.play.specs.State.{kept_at, kept_lines}
use Rattle.play.proofs.state.Turns.{lines-first, lines-turn, lines-over}
use Rattle.play.proofs.state.put_all_kept.Goals as goal

pub loop-i-init : goal.loop-i-init
loop-i-init c = (search rules, search (rules, lines-first))

pub loop-i-preserved : goal.loop-i-preserved
loop-i-preserved c = (
  search rules,
  lines-turn (kept_at c.args.receiver.kept.series c.args.receiver.live.series) c.loop-i.i (omega arith) c.loop-i.invariant.1 c.put_kept-to.ensures.0,
)

pub returns : goal.returns
unfolding kept_lines
returns c = (search (rules, lines-over), search rules)
