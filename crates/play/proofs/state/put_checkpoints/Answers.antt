use borrow.Author.Rules.{rules}
use native.Mathlib.Omega.{arith}
use Rattle.flow.proofs.series.Places.{unmapped}
use Rattle.play.specs.State.{all_checkpoints, checkpoint_lines, no_checkpoint}
use Rattle.play.proofs.state.Turns.{lines-first, front-turn, front-over}
use Rattle.play.proofs.state.put_checkpoints.Goals as goal

pub loop-one-init : goal.loop-one-init
loop-one-init c = (search rules, search (rules, lines-first))

pub loop-one-preserved : goal.loop-one-preserved
loop-one-preserved c = (
  search rules,
  front-turn c.names_used.result c.args.checkpoints.places (search (rules, unmapped)) checkpoint_lines (no_checkpoint) c.loop-one.one-index
      c.loop-one-test.true (omega arith) c.loop-one.invariant.1 c.put_checkpoint-to.ensures.0,
)

pub returns : goal.returns
unfolding all_checkpoints
returns c = (
  front-over c.names_used.result c.args.checkpoints.places (search (rules, unmapped)) checkpoint_lines (no_checkpoint) c.loop-one.one-index _
      c.names_used.ensures.0 (search rules) c.loop-one-test.false c.loop-one.invariant.1,
  search rules,
)
