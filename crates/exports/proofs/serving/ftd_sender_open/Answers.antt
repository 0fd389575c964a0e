use Rattle.exports.proofs.serving.ftd_sender_open.Goals as goal

pub returns : goal.returns
returns c =
    let g = rw c.sender_for.ensures at c.open-step.ensures in
    rw (← g.0, ← g.1.1, c.sender_numbers.ensures, c.refusal_of.ensures)
