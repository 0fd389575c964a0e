use mathlib.Core.List.{[], ◌∷◌}
use native.Mathlib.Omega.{arith}
use borrow.Author.Rules.{rules}
use Rattle.ftd.proofs.bytes.Put.{sets-put}
use Rattle.ftd.proofs.signed.Stores.{digits_more, digits-done}
use Rattle.ftd.proofs.signed.put_digits.Goals as goal

pub loop-i-preserved : goal.loop-i-preserved
loop-i-preserved c = (
  search rules,
  digits_more _ _ _ _ _ c.loop-i.invariant.1 c.loop-i-test.true c.loop-i.invariant.0 _ (sets-put (_ ∷ []) _ _ (omega arith)),
)

pub returns : goal.returns
returns c = search (rules, digits-done)
