use Prim.Native.Nat.{◌+◌, ◌*◌, ◌≤◌}
use Rattle.listing.specs.Text.{WroteText}
use Rattle.play.specs.State.{saved_at, lines_up_to}
use Rattle.play.proofs.state.put_all_saved.Given as goal

abbrev pub invariant-loop-one : goal.invariant-loop-one
invariant-loop-one l = (l.to ≤ l.at + 129 * l.one-index)
    × WroteText l.initial.out l.at (lines_up_to (saved_at l.fn.kept.series) l.one-index) l.out l.to
