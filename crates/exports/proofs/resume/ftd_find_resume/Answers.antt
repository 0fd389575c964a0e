use Rattle.exports.proofs.resume.ftd_find_resume.Goals as goal

pub returns-in-Absent : goal.returns-in-Absent
returns-in-Absent c = rw (← c.find_resume.ensures, c.in-Absent.is)

pub returns-in-Next : goal.returns-in-Next
returns-in-Next c = rw (← c.find_resume.ensures, c.in-Next.is)

pub returns-in-Misshapen : goal.returns-in-Misshapen
returns-in-Misshapen c = rw (← c.find_resume.ensures, c.in-Misshapen.is)

pub returns-in-Several : goal.returns-in-Several
returns-in-Several c = rw (← c.find_resume.ensures, c.in-Several.is)
