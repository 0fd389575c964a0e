use Prim.Native.Nat.{◌≤◌}
use native.Mathlib.Omega.{arith}
use borrow.Author.Tests.{eq-eqb, ne_eqb}
use Rattle.ftd.proofs.fields.Turns.{field-head}
use Rattle.exports.specs.Numbers.{step_of}
use borrow.Author.Rules.{rules}
use Rattle.exports.proofs.ftd_field_at.Goals as goal

pub returns-then-n-eq0 : goal.returns-then-n-eq0
unfolding step_of
returns-then-n-eq0 c = rw (← c.field_size-n.ensures.0, eq-eqb _ _ c.if-n-eq0.true)

pub overflow_sub-result : goal.overflow_sub-result
overflow_sub-result c =
    let h : 6 ≤ c.field_size-n.result = search (rules, field-head) in
    omega arith

pub be32-requires : goal.be32-requires
be32-requires c =
    let h : 6 ≤ c.field_size-n.result = search (rules, field-head) in
    omega arith

pub returns : goal.returns
unfolding step_of
returns c = rw (← c.field_size-n.ensures.0, ne_eqb _ _ c.if-n-eq0.false, c.be32.ensures)
