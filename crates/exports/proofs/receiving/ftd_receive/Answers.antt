use Rattle.exports.proofs.receiving.ftd_receive.Goals as goal

pub returns : goal.returns
returns c =
    let g = rw c.receiver_for.ensures at c.receive-step.ensures in
    record { answer = rw (← g.0, ← g.2, ← c.receiver_numbers.ensures) c.received.ensures; buffer = g.3 }
