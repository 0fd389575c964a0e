use borrow.Author.Rules.{rules}
use Rattle.play.proofs.prices.Lines.{pair-text}
use Rattle.play.proofs.prices.pair_line.Goals as goal

pub returns : goal.returns
returns c = (search (rules, pair-text), search rules)
