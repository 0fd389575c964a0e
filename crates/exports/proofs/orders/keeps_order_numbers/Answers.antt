use Rattle.exports.proofs.orders.Laws.{order-number-laws}
use Rattle.exports.proofs.orders.keeps_order_numbers.Goals as goal

pub returns : goal.returns
returns c = order-number-laws
