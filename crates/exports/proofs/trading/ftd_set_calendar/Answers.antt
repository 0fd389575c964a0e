use Rattle.exports.proofs.trading.ftd_set_calendar.Goals as goal

pub returns : goal.returns
returns c =
    let g = rw c.from.ensures at c.set-step.ensures in
    rw (← g, c.into.ensures, c.refusal_of.ensures)
