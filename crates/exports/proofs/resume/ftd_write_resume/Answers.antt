use Rattle.exports.proofs.resume.ftd_write_resume.Goals as goal

pub returns : goal.returns
returns c = record { answer = rw (← c.write_resume.ensures.answer) c.written.ensures; output = c.write_resume.ensures.output }
