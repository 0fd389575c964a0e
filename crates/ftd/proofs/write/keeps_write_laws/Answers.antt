use Rattle.ftd.proofs.write.Laws.{write-laws}
use Rattle.ftd.proofs.write.keeps_write_laws.Goals as goal

pub returns : goal.returns
returns c = write-laws
