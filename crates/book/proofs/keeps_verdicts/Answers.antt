use Rattle.book.proofs.verdict.Refusing.{book-refusals}
use Rattle.book.proofs.keeps_verdicts.Goals as goal

pub returns : goal.returns
returns c = book-refusals
