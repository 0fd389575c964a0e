use Rattle.exports.proofs.serving.ftd_send_packet.Goals as goal

pub returns : goal.returns
returns c =
    let g = rw c.sender_for.ensures at c.send_packet-step.ensures in
    record { answer = rw (← g.0, ← g.1.1, ← c.sender_numbers.ensures) c.sent_packet.ensures; output = g.2 }
