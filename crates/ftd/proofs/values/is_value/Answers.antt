use borrow.Author.Rules.{rules}
use Rattle.ftd.proofs.values.Checks.{above, char-value, word_value, int-value, text-value, number-value}
use Rattle.ftd.proofs.values.Checks.{float_value, date-value, listed-value, listed-wide, no_kind}
use Rattle.ftd.proofs.values.is_value.Goals as goal

pub is_listed-requires : goal.is_listed-requires
is_listed-requires c = (search (rules, above), search rules)

pub returns-then-s-eq1 : goal.returns-then-s-eq1
returns-then-s-eq1 c = search (rules, listed-value)

pub returns-in-0 : goal.returns-in-0
returns-in-0 c = search (rules, char-value)

pub returns-in-1 : goal.returns-in-1
returns-in-1 c = search (rules, word_value)

pub returns-in-2 : goal.returns-in-2
returns-in-2 c = search (rules, int-value)

pub returns-in-3 : goal.returns-in-3
returns-in-3 c = search (rules, text-value)

pub returns-in-4 : goal.returns-in-4
returns-in-4 c = search (rules, number-value)

pub returns-in-5 : goal.returns-in-5
returns-in-5 c = search (rules, float_value)

pub returns-in-6 : goal.returns-in-6
returns-in-6 c = search (rules, date-value)

pub returns-else-s-eq1 : goal.returns-else-s-eq1
returns-else-s-eq1 c = search (rules, listed-wide)

pub returns-in_default : goal.returns-in_default
returns-in_default c = search (rules, no_kind)
