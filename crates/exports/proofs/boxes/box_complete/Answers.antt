use Rattle.exports.proofs.boxes.box_complete.Goals as goal

pub returns : goal.returns
returns c = rw (c.into.ensures, c.origin_number.ensures)
