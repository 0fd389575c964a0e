use mathlib.Core.Path.{◌∙◌}
use Rattle.fix.proofs.text.Turns.{starts-stands}
use Rattle.fix.proofs.text.stands_at.Goals as goal

pub returns : goal.returns
returns c = c.starts_with.ensures.value ∙ starts-stands _ _ _ _ c.min.ensures
