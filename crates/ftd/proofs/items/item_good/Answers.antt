use native.Mathlib.Omega.{arith}
use borrow.Author.Rules.{rules}
use borrow.Author.Tests.{leb-true}
use Rattle.ftd.proofs.items.Walk.{item-short, item-there}
use Rattle.ftd.proofs.items.item_good.Goals as goal

pub returns-then-width-end : goal.returns-then-width-end
returns-then-width-end c = (search (rules, item-there), λ e. search rules)

pub returns-else-width-end : goal.returns-else-width-end
returns-else-width-end c = (search (rules, item-short), λ e. omega (arith, leb-true _ _ e))
