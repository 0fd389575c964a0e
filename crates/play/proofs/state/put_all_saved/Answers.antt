use borrow.Author.Rules.{rules}
use native.Mathlib.Omega.{arith}
use Rattle.flow.specs.Ends.{new_kept}
use Rattle.flow.proofs.series.Places.{unmapped}
use Rattle.play.specs.State.{saved_lines, saved_series}
use Rattle.play.proofs.state.Turns.{lines-first, front-turn, front-over}
use Rattle.play.proofs.state.put_all_saved.Goals as goal

pub loop-one-init : goal.loop-one-init
loop-one-init c = (search rules, search (rules, lines-first))

pub loop-one-preserved : goal.loop-one-preserved
loop-one-preserved c = (
  search rules,
  front-turn c.shown_places.result c.args.kept.series (search (rules, unmapped)) saved_series (new_kept 0) c.loop-one.one-index
      c.loop-one-test.true (omega arith) c.loop-one.invariant.1 c.put_saved-to.ensures.0,
)

pub returns : goal.returns
unfolding saved_lines
returns c = (
  front-over c.shown_places.result c.args.kept.series (search (rules, unmapped)) saved_series (new_kept 0) c.loop-one.one-index _
      c.shown_places.ensures.0 (search rules) c.loop-one-test.false c.loop-one.invariant.1,
  search rules,
)
