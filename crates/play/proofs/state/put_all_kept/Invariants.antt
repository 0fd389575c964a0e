use Prim.Native.Nat.{◌+◌, ◌*◌, ◌≤◌}
use Rattle.listing.specs.Text.{WroteText}
use Rattle.play.specs.State.{kept_at, lines_up_to}
use Rattle.play.proofs.state.put_all_kept.Given as goal

abbrev pub invariant-loop-i : goal.invariant-loop-i
invariant-loop-i l = (l.to ≤ l.at + 192 * l.i)
    × WroteText l.initial.out l.at (lines_up_to (kept_at l.receiver.kept.series l.receiver.live.series) l.i) l.out l.to
