use lib.ListN.{length}
use Prim.Native.Nat.{◌≤◌}
use native.Mathlib.Omega.{arith}
use Rattle.ftd.proofs.write.Puts.{header-put}
use Rattle.ftd.proofs.write.put_header.Goals as goal

pub returns : goal.returns
returns c =
    let room : c.args.to ≤ length c.args.out.now = omega (arith, c.requires.0) in
    header-put _ _ _ _ _ _ _ _ _ c.args.h _ _ room c.requires.1 c.put8.ensures c.put32.ensures
    c.letter.ensures c.put8-2.ensures c.put16.ensures c.put32-2.ensures c.put16-2.ensures
    c.put16-3.ensures
