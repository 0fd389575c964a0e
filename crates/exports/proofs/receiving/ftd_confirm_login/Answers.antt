use Rattle.exports.proofs.receiving.ftd_confirm_login.Goals as goal

pub returns : goal.returns
returns c =
    let g = rw c.receiver_for.ensures at c.confirm_login-step.ensures in
    rw (← g.0, ← g.1.1, ← c.receiver_numbers.ensures) c.confirmed.ensures
