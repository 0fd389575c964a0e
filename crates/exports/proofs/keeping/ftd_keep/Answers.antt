use Rattle.exports.proofs.keeping.ftd_keep.Goals as goal

pub returns : goal.returns
returns c =
    let g = rw (c.receiver_for.ensures, c.from.ensures) at c.keep-step.ensures in
    rw (← g.0, ← g.1.1, c.into.ensures, c.refusal_of.ensures)
