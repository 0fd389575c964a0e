use borrow.Author.Rules.{rules}
use Rattle.play.proofs.prices.Lines.{level-none, level-at}
use Rattle.play.proofs.prices.level_line.Goals as goal

pub returns-in-None : goal.returns-in-None
returns-in-None c = (search (rules, level-none), search rules)

pub returns-in-Some : goal.returns-in-Some
returns-in-Some c = (search (rules, level-at), search rules)
