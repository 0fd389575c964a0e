use native.Mathlib.Omega.{arith}
use mathlib.Core.Path.{refl}
use Rattle.flow.specs.Answers.{sent_said}
use Rattle.flow.proofs.sender.Sends.{found_none, found-refused, entry-inside, entry-lent, entry-comes, comes-to}
use borrow.Author.Rules.{rules}
use Rattle.flow.proofs.sender.Sender.send.Goals as goal

pub overflow_add-end : goal.overflow_add-end
overflow_add-end c =
    let h =
    entry-inside _ _ _ _ c.find_next.ensures c.in-Ok-Some.next.place c.in-Ok-Some.next.number c.in-Ok-Some.next.start c.in-Ok-Some.next.size (search rules) in
    omega (arith, c)

pub slice_bounds-send_entry-end : goal.slice_bounds-send_entry-end
slice_bounds-send_entry-end c = search (rules, entry-inside)

pub send_entry-requires : goal.send_entry-requires
send_entry-requires c = search (rules, entry-lent)

pub returns-in-Ok-None : goal.returns-in-Ok-None
returns-in-Ok-None c =
    let h = found_none _ _ _ _ c.find_next.ensures (search rules) in
    comes-to sent_said _ _ _ _ _ (h _).0 (refl, refl, refl)

pub returns-in-Err : goal.returns-in-Err
returns-in-Err c =
    let h = found-refused _ _ _ _ c.find_next.ensures _ c.in-Err.is in
    comes-to sent_said _ _ _ _ _ (h _).0 (refl, refl, refl)

pub returns-in-Ok-Some : goal.returns-in-Ok-Some
returns-in-Ok-Some c =
    let h =
    entry-comes _ _ _ _ c.find_next.ensures c.in-Ok-Some.next.place c.in-Ok-Some.next.number c.in-Ok-Some.next.start c.in-Ok-Some.next.size
    (rw c.in-Ok-Some.field-0-is at c.in-Ok-Some.is) in
    comes-to sent_said _ _ _ _ _ (h _).0 c.send_entry.ensures
