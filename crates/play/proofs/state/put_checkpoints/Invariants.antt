use Prim.Native.Nat.{◌+◌, ◌*◌, ◌≤◌}
use Rattle.listing.specs.Text.{WroteText}
use Rattle.play.specs.State.{checkpoint_at, lines_up_to}
use Rattle.play.proofs.state.put_checkpoints.Given as goal

abbrev pub invariant-loop-one : goal.invariant-loop-one
invariant-loop-one l = (l.to ≤ l.at + 1048 * l.one-index)
    × WroteText l.initial.out l.at (lines_up_to (checkpoint_at l.fn.checkpoints.places) l.one-index) l.out l.to
