use Rattle.exports.proofs.several.handed.Goals as goal

pub returns : goal.returns
returns c = rw (c.into.ensures, c.origin_number.ensures)
