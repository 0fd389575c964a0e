use borrow.Author.Rules.{rules}
use Rattle.ftd.proofs.packet.Verdicts.{head-number, said-number, no_number}
use Rattle.ftd.proofs.packet.missing.Goals as goal

pub returns-then-p-said : goal.returns-then-p-said
returns-then-p-said c = search (rules, said-number)

pub returns-then-p-ge4 : goal.returns-then-p-ge4
returns-then-p-ge4 c = search (rules, no_number)

pub returns : goal.returns
returns c = search (rules, head-number)
