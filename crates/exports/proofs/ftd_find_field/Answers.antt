use Rattle.exports.proofs.ftd_find_field.Goals as goal

pub returns-in-None : goal.returns-in-None
returns-in-None c = rw (← c.find_field.ensures.0, c.in-None.is)

pub returns-in-Some : goal.returns-in-Some
returns-in-Some c = rw (← c.find_field.ensures.0, c.in-Some.is)
