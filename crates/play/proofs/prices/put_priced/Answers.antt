use borrow.Author.Rules.{rules}
use Rattle.play.proofs.prices.Lines.{priced-text}
use Rattle.play.proofs.prices.put_priced.Goals as goal

pub returns : goal.returns
returns c = (search (rules, priced-text), search rules)
