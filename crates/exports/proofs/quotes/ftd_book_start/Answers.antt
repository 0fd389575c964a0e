use Rattle.exports.proofs.quotes.ftd_book_start.Goals as goal

pub returns : goal.returns
returns c =
    let g = rw c.from.ensures at c.start-answer.ensures in
    rw (← g, c.into.ensures, c.refusal_of.ensures)
