use Rattle.ftd.proofs.packet.Laws.{read-laws}
use Rattle.ftd.proofs.packet.keeps_read_laws.Goals as goal

pub returns : goal.returns
returns c = read-laws
