use Rattle.exports.proofs.frames.ftd_frame_write.Goals as goal

pub returns : goal.returns
returns c = record { answer = rw (← c.write.ensures.answer) c.written.ensures; output = c.write.ensures.output }
