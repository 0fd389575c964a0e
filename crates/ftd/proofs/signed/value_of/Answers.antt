use borrow.Author.Rules.{rules}
use Rattle.ftd.proofs.signed.Powers.{value-minus, value-plain}
use Rattle.ftd.proofs.signed.value_of.Goals as goal

pub returns-then-s-eq45 : goal.returns-then-s-eq45
returns-then-s-eq45 c = search (rules, value-minus)

pub returns : goal.returns
returns c = search (rules, value-plain)
