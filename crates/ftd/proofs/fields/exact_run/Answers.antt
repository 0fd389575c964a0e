use native.Mathlib.Nat.{zero-add}
use borrow.Author.Rules.{rules}
use Rattle.ftd.specs.Fields.{exact_run}
use Rattle.ftd.proofs.fields.Turns.{fields-stop, fields-end, fields-turn}
use Rattle.ftd.proofs.fields.exact_run.Goals as goal

pub loop-count-init : goal.loop-count-init
unfolding exact_run
loop-count-init c = (search rules, search rules, rw (c.size16-most.ensures.0, zero-add))

pub returns-then-at-content : goal.returns-then-at-content
returns-then-at-content c = search (rules, fields-stop)

pub returns-then-n-eq0 : goal.returns-then-n-eq0
returns-then-n-eq0 c = search (rules, fields-end)

pub loop-count-preserved : goal.loop-count-preserved
loop-count-preserved c = (search rules, search rules, search (rules, fields-turn))
