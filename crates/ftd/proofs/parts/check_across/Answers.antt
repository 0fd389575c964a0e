use Prim.Native.Nat.{◌-◌, ◌<◌, ◌≤◌}
use mathlib.Core.Logic.{inl, inr}
use native.Mathlib.Omega.{arith}
use lib.ListN.{length}
use Rattle.ftd.proofs.parts.Across.{past-start, across-none, across-long, across-whole, rest-length, across-same}
use Rattle.ftd.proofs.parts.Across.{rest-inside, across-most, across-room}
use borrow.Author.Rules.{rules}
use Rattle.ftd.proofs.parts.check_across.Goals as goal

pub returns-then-n-eq0 : goal.returns-then-n-eq0
returns-then-n-eq0 c =
    elim c.then-n-eq0.either [ inl z ↦ search (rules, across-none) | inr (z, k) ↦ search (rules, across-long) ]

pub overflow_sub-more : goal.overflow_sub-more
overflow_sub-more c =
    let h : length c.args.start.now < c.size_across-n.result = search (rules, past-start) in
    omega arith

pub slice_bounds-check_joined-end : goal.slice_bounds-check_joined-end
slice_bounds-check_joined-end c = search (rules, rest-length)

pub check_joined-requires : goal.check_joined-requires
check_joined-requires c =
    let k : c.size_across-n.result - length c.args.start.now ≤ length c.args.tail.now = search (rules, rest-inside) in (
      c.requires.0,
      search (rules, across-whole),
      search (rules, across-most),
      across-room c.args.limit c.args.first.now c.args.start.now c.args.tail.now
          (c.size_across-n.result - length c.args.start.now) k c.requires.3,
    )

pub returns : goal.returns
returns c = search (rules, across-same)
