use borrow.Author.Rules.{rules}
use Rattle.play.proofs.prices.Lines.{mean-none, mean-price}
use Rattle.play.proofs.prices.mean_line.Goals as goal

pub returns-in-None : goal.returns-in-None
returns-in-None c = (search (rules, mean-none), search rules)

pub returns-in-Some : goal.returns-in-Some
returns-in-Some c = (search (rules, mean-price), search rules)
