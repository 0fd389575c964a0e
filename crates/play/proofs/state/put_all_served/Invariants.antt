use Prim.Native.Nat.{◌+◌, ◌*◌, ◌≤◌}
use Rattle.listing.specs.Text.{WroteText}
use Rattle.play.specs.State.{served_at, lines_up_to}
use Rattle.play.proofs.state.put_all_served.Given as goal

abbrev pub invariant-loop-i : goal.invariant-loop-i
invariant-loop-i l = (l.to ≤ l.at + 190 * l.i)
    × WroteText l.initial.out l.at (lines_up_to (served_at l.sender.day.series l.sender.seat.places) l.i) l.out l.to
