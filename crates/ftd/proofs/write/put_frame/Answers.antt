use native.Mathlib.Omega.{arith}
use Rattle.ftd.proofs.write.Puts.{frame-put}
use Rattle.ftd.proofs.write.put_frame.Goals as goal

pub returns : goal.returns
returns c =
    frame-put _ _ _ _ _ _ _ _ (omega arith) c.requires.1 c.requires.2 c.put8.ensures c.put8-2.ensures
    c.put16.ensures
