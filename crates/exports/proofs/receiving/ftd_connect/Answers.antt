use Rattle.exports.proofs.receiving.ftd_connect.Goals as goal

pub returns : goal.returns
returns c =
    let g = rw c.receiver_for.ensures at c.connect.ensures in
    rw (← g) c.receiver_numbers.ensures
