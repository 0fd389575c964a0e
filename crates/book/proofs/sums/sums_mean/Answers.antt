use borrow.Author.Rules.{rules}
use Rattle.book.proofs.sums.Limits.{mean-held}
use borrow.Author.Rules.{rules}
use Rattle.book.proofs.sums.sums_mean.Goals as goal

pub returns : goal.returns
returns c = search (rules, mean-held)
