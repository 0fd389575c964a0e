use Rattle.book.proofs.calls.take_match.Goals as goal

pub returns : goal.returns
returns c = simp (c.lower-2.ensures, c.lower.ensures)
