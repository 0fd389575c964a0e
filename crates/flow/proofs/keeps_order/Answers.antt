use Rattle.flow.proofs.OrderLaws.{order-laws}
use Rattle.flow.proofs.bench.Rows.{order-rows}
use Rattle.flow.proofs.keeps_order.Goals as goal

pub returns : goal.returns
returns c = (order-laws, order-rows)
