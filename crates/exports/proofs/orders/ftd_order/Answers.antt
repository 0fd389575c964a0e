use mathlib.Core.Path.{ap, ◌∙◌}
use Rattle.exports.specs.Orders.{order_numbers}
use Rattle.exports.proofs.orders.ftd_order.Goals as goal

pub returns : goal.returns
returns c =
    let o = rw (c.sender_for.ensures, c.sender_for-2.ensures) at c.order_of.ensures in
    c.ordered.ensures ∙ ap order_numbers o
