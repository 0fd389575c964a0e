use Rattle.exports.proofs.ftd_write_plain.Goals as goal

pub returns : goal.returns
returns c = record { answer = rw (← c.write_plain.ensures.answer) c.written.ensures; output = c.write_plain.ensures.output }
