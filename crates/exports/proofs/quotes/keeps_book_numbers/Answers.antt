use Rattle.exports.proofs.quotes.Laws.{book-number-laws}
use Rattle.exports.proofs.quotes.keeps_book_numbers.Goals as goal

pub returns : goal.returns
returns c = book-number-laws
