use Prim.Native.Nat.{◌<◌}
use native.Mathlib.Omega.{arith}
use borrow.Author.Rules.{rules}
use Rattle.flow.proofs.sender.Lookups.{found_inside}
use Rattle.flow.proofs.order.Read.{first-unknown, second-unknown, other-days, first-damaged, second-damaged}
use Rattle.flow.proofs.order.Read.{both_read}
use Rattle.flow.proofs.order.order_of.Goals as goal
use Rattle.flow.proofs.order.order_of.Goals.{else-finds_last-via-then-finds_last+else-finds_last-2, else-finds_last-via-else-finds_last}

pub returns-in_default : goal.returns-in_default
returns-in_default c = search (rules, first-unknown)

pub returns-in_default-find : goal.returns-in_default-find
returns-in_default-find c = search (rules, second-unknown)

pub returns-then-other_date : goal.returns-then-other_date
returns-then-other_date c = search (rules, other-days)

pub offset_bounds-a-i : goal.offset_bounds-a-i
offset_bounds-a-i c =
    let h : c.in-Some.i < 8 = search (rules, found_inside) in
    omega arith

pub bounds-a-i : goal.bounds-a-i
bounds-a-i c = search (rules, found_inside)

pub offset_bounds-b-j : goal.offset_bounds-b-j
offset_bounds-b-j c =
    let h : c.in-Some-find.j < 8 = search (rules, found_inside) in
    omega arith

pub bounds-b-j : goal.bounds-b-j
bounds-b-j c = search (rules, found_inside)

pub returns-then-finds_last-2 : goal.returns-then-finds_last-2
returns-then-finds_last-2 c = search (rules, both_read)

pub returns : goal.returns
returns c =
    elim c.else-finds_last.branch [
      | else-finds_last-via-then-finds_last+else-finds_last-2 w ↦ search (rules, second-damaged)
      | else-finds_last-via-else-finds_last w ↦ search (rules, first-damaged)
    ]
