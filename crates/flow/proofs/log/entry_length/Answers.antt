use native.Mathlib.Omega.{arith}
use lib.ListN.{length-append}
use Rattle.flow.proofs.log.entry_length.Goals as goal

pub overflow_add-result-2 : goal.overflow_add-result-2
overflow_add-result-2 c = let k = length-append c.args.head.now c.args.tail.now in omega (arith, k, c.requires)

pub returns : goal.returns
returns c = let k = length-append c.args.head.now c.args.tail.now in omega (arith, k)
