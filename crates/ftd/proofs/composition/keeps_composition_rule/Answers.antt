use Rattle.ftd.proofs.composition.Rule.{composition-rule}
use Rattle.ftd.proofs.composition.keeps_composition_rule.Goals as goal

pub returns : goal.returns
returns c = composition-rule
