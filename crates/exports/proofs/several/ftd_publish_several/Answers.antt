use Rattle.exports.proofs.several.ftd_publish_several.Goals as goal

pub returns : goal.returns
returns c =
    let g = rw c.sender_for.ensures at c.publish_several-step.ensures in
    record { answer = rw (← g.0, ← g.2, ← g.3, ← c.sender_numbers.ensures) c.published_several.ensures; log = g.4 }
