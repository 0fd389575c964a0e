use borrow.Author.Rules.{rules}
use Rattle.play.proofs.prices.Lines.{mean-text}
use Rattle.play.proofs.prices.price_line.Goals as goal

pub returns : goal.returns
returns c = (search (rules, mean-text), search rules)
