use Rattle.exports.proofs.several.ftd_receive_several.Goals as goal

pub returns : goal.returns
returns c =
    let g = rw c.receiver_for.ensures at c.receive_several-step.ensures in
    record { answer = rw (← g.0, ← g.2, ← g.3, ← c.receiver_numbers.ensures) c.received_several.ensures; buffer = g.4 }
