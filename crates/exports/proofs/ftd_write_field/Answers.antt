use Rattle.exports.proofs.ftd_write_field.Goals as goal

pub returns : goal.returns
returns c = record { answer = rw (← c.write_field.ensures.answer) c.written.ensures; output = c.write_field.ensures.output }
