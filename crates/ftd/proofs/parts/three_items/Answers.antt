use Rattle.ftd.proofs.items.Walk.{check-width, check-walk}
use borrow.Author.Rules.{rules}
use Rattle.ftd.proofs.parts.three_items.Goals as goal

pub returns-then-three_wrong_width : goal.returns-then-three_wrong_width
returns-then-three_wrong_width c = search (rules, check-width)

pub returns : goal.returns
returns c = search (rules, check-walk)
