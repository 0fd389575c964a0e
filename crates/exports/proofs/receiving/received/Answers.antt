use Rattle.exports.proofs.receiving.received.Goals as goal

pub returns-in-Idle : goal.returns-in-Idle
returns-in-Idle c = rw c.in-Idle.is c.plain.ensures

pub returns-in-Duplicate : goal.returns-in-Duplicate
returns-in-Duplicate c = rw c.in-Duplicate.is c.plain-in-Duplicate.ensures

pub returns-in-Partial : goal.returns-in-Partial
returns-in-Partial c = rw c.in-Partial.is c.plain-in-Partial.ensures

pub returns-in-Complete : goal.returns-in-Complete
returns-in-Complete c = rw c.in-Complete.is c.complete.ensures

pub returns-in-Refused : goal.returns-in-Refused
returns-in-Refused c = rw (c.in-Refused.is, ← c.number.ensures) c.plain-in-Refused.ensures
