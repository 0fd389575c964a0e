use Rattle.exports.proofs.frames.ftd_frame_read.Goals as goal

pub returns : goal.returns
returns c = rw (← c.read-found.ensures) c.judged.ensures
