use Prim.Native.Nat.{◌+◌, ◌≤◌}
use Rattle.play.proofs.state.Names.{Left}
use Rattle.play.proofs.state.put_name.Given as goal

abbrev pub invariant-loop : goal.invariant-loop
invariant-loop l = (l.to ≤ l.at + l.counter) × Left l.initial.out l.at l.name l.out l.to l.rest l.counter
