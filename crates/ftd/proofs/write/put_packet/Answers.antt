use native.Mathlib.Omega.{arith}
use Rattle.ftd.proofs.write.Puts.{packet-put}
use Rattle.ftd.proofs.write.put_packet.Goals as goal

pub returns : goal.returns
returns c =
    packet-put _ _ _ _ _ _ _ _ (omega arith) c.put_frame.ensures c.copy_at.ensures c.copy_at-2.ensures
