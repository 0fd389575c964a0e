use Rattle.exports.proofs.items.ftd_read_item.Goals as goal

pub returns : goal.returns
returns c = rw (← c.read_item.ensures) c.numbers.ensures
