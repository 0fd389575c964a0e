use Rattle.ftd.proofs.tags.KnownTags.{row_first, row_last, row-none}
use borrow.Author.Rules.{rules}
use Rattle.ftd.proofs.tags.row_of.Goals as goal

pub returns-then-kind-lt7 : goal.returns-then-kind-lt7
returns-then-kind-lt7 c = search (rules, row_first)

pub returns-then-kind-eq112 : goal.returns-then-kind-eq112
returns-then-kind-eq112 c = search (rules, row_last)

pub returns : goal.returns
returns c = search (rules, row-none)
