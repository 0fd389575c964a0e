use native.Mathlib.Omega.{arith}
use Rattle.fix.proofs.frame.Puts.{trailer-put}
use Rattle.fix.proofs.frame.put_trailer.Goals as goal

pub returns : goal.returns
returns c =
    trailer-put _ _ _ _ _ _ (omega arith) c.copy_at.ensures c.put_sum.ensures c.put8.ensures
