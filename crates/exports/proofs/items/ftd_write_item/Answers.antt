use Rattle.exports.proofs.items.ftd_write_item.Goals as goal

pub returns : goal.returns
returns c =
    rw (← c.item_for.ensures) record { answer = rw (← c.write_item.ensures.answer) c.written.ensures; output = c.write_item.ensures.output }
