use Rattle.exports.proofs.quotes.ftd_book_take.Goals as goal

pub returns : goal.returns
returns c =
    let g = rw c.from.ensures at c.take-answer.ensures in
    rw (← g, c.into.ensures, c.refusal_of.ensures)
