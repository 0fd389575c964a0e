use Rattle.book.specs.Calls.{book_mean}
use Rattle.book.proofs.calls.Book.mean.Goals as goal

pub returns : goal.returns
unfolding book_mean
returns c = c.sums_mean.ensures
