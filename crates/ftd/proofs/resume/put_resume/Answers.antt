use native.Mathlib.Omega.{arith}
use Rattle.ftd.proofs.write.Puts.{resume-put}
use Rattle.ftd.proofs.resume.put_resume.Goals as goal

pub returns : goal.returns
returns c =
    resume-put _ _ _ _ _ _ _ _ (omega arith) c.put32.ensures c.put16.ensures c.put16-2.ensures
    c.put32-2.ensures
