use mathlib.Core.Path.{ap, ◌∙◌}
use Rattle.exports.specs.Orders.{order_numbers}
use Rattle.exports.proofs.orders.ftd_box_order_with.Goals as goal

pub returns : goal.returns
returns c =
    let o = rw (c.relay_for.ensures, c.sender_for.ensures) at c.order_with.ensures in
    c.ordered.ensures ∙ ap order_numbers o
