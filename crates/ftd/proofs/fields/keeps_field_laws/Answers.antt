use Rattle.ftd.proofs.fields.Laws.{field_laws}
use Rattle.ftd.proofs.fields.keeps_field_laws.Goals as goal

pub returns : goal.returns
returns c = field_laws
