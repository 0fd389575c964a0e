use borrow.Author.Rules.{rules}
use Rattle.play.proofs.text.Turns.{part-behind, part-rest, part-whole}
use Rattle.play.proofs.text.part_of.Goals as goal

pub returns-then-bytes-start : goal.returns-then-bytes-start
returns-then-bytes-start c = search (rules, part-behind)

pub returns-then-bytes-start-2 : goal.returns-then-bytes-start-2
returns-then-bytes-start-2 c = search (rules, part-rest)

pub returns : goal.returns
returns c = search (rules, part-whole)
