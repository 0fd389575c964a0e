use Rattle.ftd.proofs.values.Laws.{value-laws}
use Rattle.ftd.proofs.signed.keeps_value_laws.Goals as goal

pub returns : goal.returns
returns c = value-laws
