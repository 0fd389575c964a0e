use Rattle.exports.proofs.keeping.ftd_return.Goals as goal

pub returns : goal.returns
returns c =
    let g = rw (c.receiver_for.ensures, c.from.ensures) at c.restore-step.ensures in
    rw (← g.0, ← g.1.1, c.receiver_numbers.ensures, c.refusal_of.ensures)
