use Prim.Native.Nat.{◌≤◌}
use native.Mathlib.Omega.{arith}
use borrow.Author.Rules.{rules}
use Rattle.ftd.proofs.fields.Turns.{field-head}
use Rattle.ftd.proofs.fields.Listed.{walk-over, walk-next}
use Rattle.ftd.proofs.fields.FieldsIterator.next.Goals as goal

pub returns-then-n-eq0-clause-steps : goal.returns-then-n-eq0-clause-steps
returns-then-n-eq0-clause-steps c = search (rules, walk-over)

pub be32-requires : goal.be32-requires
be32-requires c = let h : 6 ≤ c.field_size-n.result = search (rules, field-head) in
    omega arith

pub overflow_sub-found : goal.overflow_sub-found
overflow_sub-found c = search (rules, field-head)

pub returns-clause-steps : goal.returns-clause-steps
returns-clause-steps c = search (rules, walk-next)

pub returns-clause-goes : goal.returns-clause-goes
returns-clause-goes c = search (rules, walk-next)
