use Rattle.exports.proofs.quotes.ftd_book_fresh.Goals as goal

pub returns : goal.returns
returns c = rw c.fresh.ensures at c.into.ensures
