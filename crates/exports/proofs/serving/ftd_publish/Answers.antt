use Rattle.exports.proofs.serving.ftd_publish.Goals as goal

pub returns : goal.returns
returns c =
    let g = rw c.sender_for.ensures at c.publish-step.ensures in
    record { answer = rw (← g.0, ← g.1.1, ← c.sender_numbers.ensures) c.published.ensures; log = g.2 }
