use borrow.Author.Rules.{rules}
use Rattle.play.proofs.words.Arguments.{count-first, count-end, count-wrong, count-more, count-over}
use Rattle.play.proofs.words.number_count.Goals as goal

pub loop-n-init : goal.loop-n-init
loop-n-init c = search (rules, count-first)

pub returns-then-has_arguments : goal.returns-then-has_arguments
returns-then-has_arguments c = (search (rules, count-end), search rules)

pub returns-then-above : goal.returns-then-above
returns-then-above c = (search (rules, count-wrong), search rules)

pub loop-n-preserved : goal.loop-n-preserved
loop-n-preserved c = search (rules, count-more)

pub returns : goal.returns
returns c = (search (rules, count-over), search rules)
