use borrow.Author.Rules.{rules}
use Rattle.ftd.proofs.values.Checks.{listed, listed-over, listed-entry}
use Rattle.ftd.proofs.values.is_listed.Goals as goal

pub returns-else-b-lt8 : goal.returns-else-b-lt8
returns-else-b-lt8 c = search (rules, listed-over)

pub returns-then-b-lt8 : goal.returns-then-b-lt8
unfolding listed
returns-then-b-lt8 c = search (rules, listed-entry)
