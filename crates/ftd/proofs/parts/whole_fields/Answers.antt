use borrow.Author.Rules.{rules}
use mathlib.Core.Path.{sym}
use Rattle.ftd.proofs.parts.Laws.{none-whole, whole-turn}
use Rattle.ftd.proofs.parts.whole_fields.Goals as goal

pub loop-at-init : goal.loop-at-init
loop-at-init c = (search rules, none-whole)

pub returns-then-n-eq0 : goal.returns-then-n-eq0
returns-then-n-eq0 c = (search rules, search rules, search (rules, sym))

pub loop-at-preserved : goal.loop-at-preserved
loop-at-preserved c = (search rules, search (rules, whole-turn))
