use Rattle.exports.proofs.items.ftd_mode_of.Goals as goal

pub returns-in-Unknown : goal.returns-in-Unknown
returns-in-Unknown c = rw (← c.mode_of.ensures, c.in-Unknown.is)

pub returns-in-Private : goal.returns-in-Private
returns-in-Private c = rw (← c.mode_of.ensures, c.in-Private.is)

pub returns-in-Broadcast : goal.returns-in-Broadcast
returns-in-Broadcast c = rw (← c.mode_of.ensures, c.in-Broadcast.is)

pub returns-in-Management : goal.returns-in-Management
returns-in-Management c = rw (← c.mode_of.ensures, c.in-Management.is)

pub returns-in-Dialog : goal.returns-in-Dialog
returns-in-Dialog c = rw (← c.mode_of.ensures, c.in-Dialog.is)
