use Rattle.ftd.proofs.chain.Laws.{chain_laws}
use Rattle.ftd.proofs.chain.keeps_chain_laws.Goals as goal

pub returns : goal.returns
returns c = chain_laws
