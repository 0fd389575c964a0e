use Rattle.ftd.proofs.packet.Laws.{judged-verdict, judged-parts}
use Rattle.ftd.proofs.packet.read_dated.Goals as goal

pub parts-requires : goal.parts-requires
parts-requires c = judged-verdict _ _ c.judge-j.ensures

pub returns : goal.returns
returns c = judged-parts _ _ c.judge-j.ensures _ c.parts.ensures
