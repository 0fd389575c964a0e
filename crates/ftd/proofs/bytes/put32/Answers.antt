use native.Mathlib.Omega.{arith}
use native.Mathlib.Numerals.{towards_suc}
use lib.ListN.{length-set}
use Rattle.ftd.specs.Bytes.{bytes32}
use Rattle.ftd.proofs.bytes.Put.{sets-put}
use Rattle.ftd.proofs.bytes.put32.Goals as goal

pub bounds-out-at-2 : goal.bounds-out-at-2
bounds-out-at-2 c = simp length-set (omega arith)

pub bounds-out-at-3 : goal.bounds-out-at-3
bounds-out-at-3 c = simp length-set (omega arith)

pub bounds-out-at-4 : goal.bounds-out-at-4
bounds-out-at-4 c = simp length-set (omega arith)

pub returns : goal.returns
returns c = simp towards_suc (sets-put (bytes32 c.args.x) c.args.out.now c.args.at c.requires)
