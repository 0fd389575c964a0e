use Rattle.book.specs.Calls.{level_of}
use Rattle.book.proofs.calls.Book.level.Goals as goal

pub returns-then-buying : goal.returns-then-buying
unfolding level_of
returns-then-buying c = rw c.if-buying.true c.level_in.ensures

pub returns-else-buying : goal.returns-else-buying
unfolding level_of
returns-else-buying c = rw c.if-buying.false c.level_in-else-buying.ensures
