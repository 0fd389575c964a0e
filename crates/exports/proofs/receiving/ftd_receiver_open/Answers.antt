use Rattle.exports.proofs.receiving.ftd_receiver_open.Goals as goal

pub returns : goal.returns
returns c =
    let g = rw c.receiver_for.ensures at c.open-step.ensures in
    rw (← g.0, ← g.1.1, c.receiver_numbers.ensures, c.refusal_of.ensures)
