use borrow.Author.Rules.{rules}
use Rattle.play.proofs.words.Arguments.{end-first, end-turn, end-over}
use Rattle.play.proofs.words.end_at.Goals as goal

pub loop-init : goal.loop-init
loop-init c = (search (rules, end-first), search rules)

pub loop-preserved : goal.loop-preserved
loop-preserved c = (search (rules, end-turn), search rules)

pub returns : goal.returns
returns c = (search (rules, end-over), search rules)
