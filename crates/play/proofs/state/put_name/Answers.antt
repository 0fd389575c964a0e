use borrow.Author.Rules.{rules}
use Rattle.play.proofs.state.Names.{letters-first, letters-turn, letters-zero, letters-over}
use Rattle.play.proofs.state.put_name.Goals as goal

pub loop-init : goal.loop-init
loop-init c = (search rules, search (rules, letters-first))

pub returns-then-x-eq0 : goal.returns-then-x-eq0
returns-then-x-eq0 c = (search (rules, letters-zero), search rules)

pub loop-preserved : goal.loop-preserved
loop-preserved c = (search rules, search (rules, letters-turn))

pub returns : goal.returns
returns c = (search (rules, letters-over), search rules)
