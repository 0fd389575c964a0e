use Prim.Native.Nat.{◌+◌, ◌-◌}
use mathlib.Core.Path.{◌≡◌}
use native.Mathlib.Omega.{arith}
use Rattle.ftd.proofs.Tests.{tests}
use Rattle.listing.specs.Lines.{is_heart}
use Rattle.listing.proofs.is_heart.Goals as goal

pub returns-then-kind-eq0 : goal.returns-then-kind-eq0
unfolding is_heart
returns-then-kind-eq0 c =
    let e : c.args.start + c.args.len - c.args.start ≡ c.args.len = omega arith in
    rw c.if-kind-eq0.true (rw e at c.keep_alive.ensures)

pub returns-else-kind-eq0 : goal.returns-else-kind-eq0
unfolding is_heart
returns-else-kind-eq0 c = search tests
