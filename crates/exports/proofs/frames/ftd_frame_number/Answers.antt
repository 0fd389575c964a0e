use Rattle.exports.proofs.frames.ftd_frame_number.Goals as goal

pub returns-in-None : goal.returns-in-None
returns-in-None c = rw (← c.number_in.ensures.0, c.in-None.is)

pub returns-in-Some : goal.returns-in-Some
returns-in-Some c = rw (← c.number_in.ensures.0, c.in-Some.is)
