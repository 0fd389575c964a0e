use Rattle.book.proofs.agreement.Shown.{book-agreement}
use Rattle.book.proofs.keeps_book.Goals as goal

pub returns : goal.returns
returns c = book-agreement
