use mathlib.Core.Path.{refl, ap, ◌∙◌}
use Rattle.ftd.proofs.packet.Laws.{judged-verdict, judged-parts}
use Rattle.exports.specs.Numbers.{dated_numbers}
use Rattle.exports.proofs.ftd_read.Goals as goal

pub numbers-requires : goal.numbers-requires
numbers-requires c = judged-verdict _ _ c.judge-found.ensures

pub returns : goal.returns
returns c = c.numbers.ensures ∙ ap (dated_numbers _) (judged-parts _ _ c.judge-found.ensures _ refl)
