use borrow.Author.Rules.{rules}
use Rattle.ftd.proofs.signed.Powers.{number-long, number-wrong, number_read, number-some}
use Rattle.ftd.proofs.signed.read_number.Goals as goal

pub returns-then-s-gt18 : goal.returns-then-s-gt18
returns-then-s-gt18 c = search (rules, number-long)

pub value_of-requires : goal.value_of-requires
value_of-requires c = (search (rules, number-some), search rules, search rules, search rules)

pub returns-then-is_number : goal.returns-then-is_number
returns-then-is_number c = search (rules, number_read)

pub returns : goal.returns
returns c = search (rules, number-wrong)
