use borrow.Author.Rules.{rules}
use native.Mathlib.Omega.{arith}
use Rattle.flow.proofs.login.Whole.{read-inside}
use Rattle.flow.proofs.confirm.Whole.{confirm-not-message, confirm-message, confirm-refused, confirm-other}
use Rattle.flow.proofs.receiver.Receiver.confirm_login.Goals as goal

pub returns-then-not_one_message : goal.returns-then-not_one_message
returns-then-not_one_message c = search (rules, confirm-not-message)

pub overflow_add-at : goal.overflow_add-at
overflow_add-at c =
    let h = read-inside c.args.packet.now c.read_dated-d.result c.read_dated-d.ensures c.in-Message.header c.in-Message.extension c.in-Message.content c.in-Message.is in
    omega (arith, h, c.well_formed.1.1.0)

pub slice_bounds-confirm_with-end : goal.slice_bounds-confirm_with-end
slice_bounds-confirm_with-end c =
    let h = read-inside c.args.packet.now c.read_dated-d.result c.read_dated-d.ensures c.in-Message.header c.in-Message.extension c.in-Message.content c.in-Message.is in
    omega (arith, h)

pub returns-in-Message : goal.returns-in-Message
returns-in-Message c = search (rules, confirm-message)

pub returns-in-Refused : goal.returns-in-Refused
returns-in-Refused c = search (rules, confirm-refused)

pub returns-in_default : goal.returns-in_default
returns-in_default c = search (rules, confirm-other)
