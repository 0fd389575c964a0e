use native.Mathlib.Omega.{arith}
use Rattle.ftd.proofs.write.Puts.{message-put}
use Rattle.ftd.proofs.write.put_message.Goals as goal

pub returns : goal.returns
returns c =
    message-put _ _ _ _ _ _ _ _ (omega arith) c.put_head.ensures c.copy_at.ensures c.copy_at-2.ensures
