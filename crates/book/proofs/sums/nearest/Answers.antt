use borrow.Author.Rules.{rules}
use Rattle.book.proofs.sums.Rounding.{remainder-small, up_fits, up-nearest, cut-nearest}
use Rattle.book.proofs.sums.nearest.Goals as goal

pub goes_up-requires : goal.goes_up-requires
goes_up-requires c = search (rules, remainder-small)

pub overflow_add-result : goal.overflow_add-result
overflow_add-result c = search (rules, up_fits)

pub returns-then-goes_up : goal.returns-then-goes_up
returns-then-goes_up c = up-nearest _ _ c.requires _ c.goes_up.ensures c.if-goes_up.true

pub returns : goal.returns
returns c = cut-nearest _ _ c.requires _ c.goes_up.ensures c.if-goes_up.false
