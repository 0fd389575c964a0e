use mathlib.Core.Path.{◌≡◌, refl}
use native.Mathlib.Omega.{arith}
use native.Mathlib.Numerals.{add-one}
use lib.ListN.{length, length-set}
use lib.Seq.{paste-zero, paste-suc}
use Rattle.ftd.proofs.bytes.Put.{paste-put}
use Rattle.ftd.proofs.bytes.copy_at.Goals as goal

pub loop-i-init : goal.loop-i-init
loop-i-init c = (refl, paste-zero c.args.out.now c.args.at c.args.src.now)

pub loop-i-preserved : goal.loop-i-preserved
loop-i-preserved c = (
  simp length-set c.loop-i.invariant.0,
  rw (c.loop-i.invariant.1, add-one)
      (paste-suc c.args.out.now c.args.at c.args.src.now c.loop-i.i 0 (omega arith) c.loop-i-test.true),
)

pub returns : goal.returns
returns c =
    let e : c.loop-i.i ≡ length c.args.src.now = omega arith in
    rw (c.loop-i.invariant.1, e) (paste-put c.args.out.now c.args.at c.args.src.now)
