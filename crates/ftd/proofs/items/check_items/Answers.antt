use borrow.Author.Rules.{rules}
use Rattle.ftd.proofs.items.Walk.{check-width, check-walk}
use Rattle.ftd.proofs.items.check_items.Goals as goal

pub returns-then-wrong_width : goal.returns-then-wrong_width
returns-then-wrong_width c = search (rules, check-width)

pub returns : goal.returns
returns c = search (rules, check-walk)
