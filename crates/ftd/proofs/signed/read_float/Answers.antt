use Prim.Native.Nat.{◌+◌, ◌≤◌}
use native.Mathlib.Omega.{arith}
use borrow.Author.Rules.{rules}
use lib.ListN.{length}
use Rattle.ftd.proofs.signed.Powers.{float-long, float-none, float_read, float-some}
use Rattle.ftd.proofs.signed.read_float.Goals as goal

pub returns-then-s-gt18 : goal.returns-then-s-gt18
returns-then-s-gt18 c = search (rules, float-long)

pub overflow_sub-point : goal.overflow_sub-point
overflow_sub-point c =
    let h : c.args.scale + 2 ≤ length c.args.s.now = search (rules, float-some) in
    omega (arith, c.size8.ensures.0)

pub value_of-requires : goal.value_of-requires
value_of-requires c =
    let h : c.args.scale + 2 ≤ length c.args.s.now = search (rules, float-some) in
    (omega (arith, c.size8.ensures.0), search rules, omega (arith, c.size8.ensures.0), search rules)

pub returns-then-is_float : goal.returns-then-is_float
returns-then-is_float c = search (rules, float_read)

pub returns : goal.returns
returns c = search (rules, float-none)
