use Prim.Native.Nat.{◌≤◌}
use native.Mathlib.Omega.{arith}
use borrow.Author.Rules.{rules}
use Rattle.std.proofs.lemmas.Grind.{common_steps}
use Rattle.fix.proofs.text.Turns.{times-fits, digit-fits, number-over, number_fits}
use Rattle.fix.proofs.text.number_in.Goals as goal

pub overflow_mul-n : goal.overflow_mul-n
overflow_mul-n c = search (rules, times-fits)

pub overflow_add-n : goal.overflow_add-n
overflow_add-n c = let d : c.from.result ≤ 9 = grind (arith, common_steps) in search (rules, digit-fits)

pub returns : goal.returns
returns c = (search (rules, number-over), search (rules, number_fits))
