use Rattle.exports.proofs.frames.ftd_frame_first.Goals as goal

pub returns : goal.returns
returns c = rw (← c.first_field.ensures.0) c.front.ensures
