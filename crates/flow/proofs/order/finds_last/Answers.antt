use borrow.Author.Rules.{rules}
use mathlib.Core.Path.{◌∙◌}
use Rattle.flow.proofs.order.Read.{last_none, last-either}
use Rattle.flow.proofs.order.finds_last.Goals as goal

pub returns-then-published-eq0 : goal.returns-then-published-eq0
returns-then-published-eq0 c = search (rules, last_none)

pub returns-else-published-eq0 : goal.returns-else-published-eq0
returns-else-published-eq0 c =
    c.is_some.ensures ∙ last-either _ _ _ _ c.if-published-eq0.false _ c.find_entry.ensures
