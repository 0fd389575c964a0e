use Rattle.exports.proofs.boxes.relay_for.Goals as goal

pub returns : goal.returns
returns c = rw (c.receiver_for.ensures, c.day_for.ensures)
