use mathlib.Core.Path.{ap, ◌∙◌}
use Rattle.exports.specs.Orders.{order_numbers}
use Rattle.exports.proofs.orders.ftd_box_order.Goals as goal

pub returns : goal.returns
returns c =
    let o = rw (c.relay_for.ensures, c.relay_for-2.ensures) at c.order.ensures in
    c.ordered.ensures ∙ ap order_numbers o
