use Rattle.ftd.proofs.resume.Content.{resume-laws}
use Rattle.ftd.proofs.resume.keeps_resume_laws.Goals as goal

pub returns : goal.returns
returns c = resume-laws
