use native.Mathlib.Omega.{arith}
use borrow.Author.Rules.{rules}
use Rattle.flow.proofs.login.Whole.{read-inside, not-message, read-message, read-refused, read-other}
use Rattle.flow.proofs.sender.Sender.login.Goals as goal

pub returns-then-not_one_message : goal.returns-then-not_one_message
returns-then-not_one_message c = search (rules, not-message)

pub overflow_add-asked : goal.overflow_add-asked
overflow_add-asked c =
    let h = read-inside c.args.packet.now c.read_dated-d.result c.read_dated-d.ensures c.in-Message.header c.in-Message.extension c.in-Message.asked c.in-Message.is in
    omega (arith, h, c.well_formed.1.1.0)

pub slice_bounds-asked-end : goal.slice_bounds-asked-end
slice_bounds-asked-end c =
    let h = read-inside c.args.packet.now c.read_dated-d.result c.read_dated-d.ensures c.in-Message.header c.in-Message.extension c.in-Message.asked c.in-Message.is in
    omega (arith, h)

pub returns-in-Message : goal.returns-in-Message
returns-in-Message c = search (rules, read-message)

pub returns-in-Refused : goal.returns-in-Refused
returns-in-Refused c = search (rules, read-refused)

pub returns-in_default : goal.returns-in_default
returns-in_default c = search (rules, read-other)
