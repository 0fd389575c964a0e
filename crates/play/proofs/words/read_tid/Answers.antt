use borrow.Author.Rules.{rules}
use Rattle.play.proofs.words.Turns.{tid-eight, tid-other}
use Rattle.play.proofs.words.read_tid.Goals as goal

pub returns-then-word-eq8 : goal.returns-then-word-eq8
returns-then-word-eq8 c = (search (rules, tid-eight), search rules)

pub returns : goal.returns
returns c = (search (rules, tid-other), search rules)
