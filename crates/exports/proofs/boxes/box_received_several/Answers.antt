use Rattle.exports.proofs.boxes.box_received_several.Goals as goal

pub returns-in-End : goal.returns-in-End
returns-in-End c = rw c.in-End.is c.box_stopped.ensures

pub returns-in-Short : goal.returns-in-Short
returns-in-Short c = rw c.in-Short.is c.box_stopped-in-Short.ensures

pub returns-in-Complete : goal.returns-in-Complete
returns-in-Complete c = rw c.in-Complete.is c.box_handed.ensures

pub returns-in-Refused : goal.returns-in-Refused
returns-in-Refused c = rw (c.in-Refused.is, ← c.number.ensures) c.box_stopped-in-Refused.ensures
