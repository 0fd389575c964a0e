use lib.ListN.{length}
use Prim.Native.Nat.{◌+◌, ◌≤◌}
use Rattle.ftd.proofs.write.Puts.{date-put}
use Rattle.ftd.proofs.bytes.Put.{put-nil}
use mathlib.Core.Path.{sym}
use native.Mathlib.Omega.{arith}
use Rattle.ftd.proofs.tags.put_tags.Goals as goal

pub returns-in_default : goal.returns-in_default
returns-in_default c = rw c.in_default.is (sym (put-nil _ _))

pub returns-in-Some : goal.returns-in-Some
returns-in-Some c =
    let room : c.args.to + 6 ≤ length c.args.out.now = rw c.in-Some.is at c.requires in
    rw c.in-Some.is
    (date-put _ _ _ _ _ _ (omega arith) c.put8.ensures c.put8-in-Some.ensures c.put32.ensures)
