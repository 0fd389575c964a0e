use mathlib.Core.Path.{◌∙◌}
use Rattle.ftd.proofs.packet.Laws.{judged-verdict, parts-read}
use Rattle.ftd.proofs.packet.read.Goals as goal

pub parts-requires : goal.parts-requires
parts-requires c = judged-verdict _ _ c.judge.ensures

pub returns : goal.returns
returns c = rw (judged-verdict _ _ c.judge.ensures) at c.parts.ensures ∙ parts-read _
