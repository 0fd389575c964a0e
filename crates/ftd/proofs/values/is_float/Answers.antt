use borrow.Author.Rules.{rules}
use Rattle.ftd.proofs.values.Checks.{float-short, float-wrong, float-right}
use Rattle.ftd.proofs.values.is_float.Goals as goal

pub returns-then-s-decimals : goal.returns-then-s-decimals
returns-then-s-decimals c = search (rules, float-short)

pub returns-then-s-point-eq46 : goal.returns-then-s-point-eq46
returns-then-s-point-eq46 c = search (rules, float-right)

pub returns-else-s-point-eq46 : goal.returns-else-s-point-eq46
returns-else-s-point-eq46 c = search (rules, float-wrong)
