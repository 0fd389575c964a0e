use Rattle.ftd.proofs.item.Laws.{item-laws}
use Rattle.ftd.proofs.item.keeps_item_laws.Goals as goal

pub returns : goal.returns
returns c = item-laws
