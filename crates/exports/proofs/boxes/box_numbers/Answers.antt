use Rattle.exports.proofs.boxes.box_numbers.Goals as goal

pub returns : goal.returns
returns c = rw (c.receiver_numbers.ensures, c.day_numbers.ensures)
