use Rattle.exports.proofs.frames.ftd_frame_field.Goals as goal

pub returns : goal.returns
returns c = rw (← c.find_field.ensures.0) c.front.ensures
