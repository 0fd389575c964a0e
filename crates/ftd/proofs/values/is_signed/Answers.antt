use borrow.Author.Rules.{rules}
use Rattle.ftd.proofs.values.Checks.{minus-wrong, minus_number, plain-number}
use Rattle.ftd.proofs.values.is_signed.Goals as goal

pub returns-then-both_in : goal.returns-then-both_in
returns-then-both_in c = search (rules, minus_number)

pub returns-else-both_in : goal.returns-else-both_in
returns-else-both_in c = search (rules, minus-wrong)

pub returns : goal.returns
returns c = search (rules, plain-number)
