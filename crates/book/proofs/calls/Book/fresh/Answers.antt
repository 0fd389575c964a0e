use Rattle.book.proofs.calls.Book.fresh.Goals as goal

pub returns : goal.returns
returns c = simp (c.no_sums.ensures, c.no_levels-2.ensures, c.no_levels.ensures)
