use Rattle.ftd.proofs.parts.Three.{three-walks}
use borrow.Author.Rules.{rules}
use Rattle.ftd.proofs.parts.three_walk.Goals as goal

pub returns-in_err-walk_items : goal.returns-in_err-walk_items
returns-in_err-walk_items c = search (rules, three-walks)

pub returns-in_err-walk_items-2 : goal.returns-in_err-walk_items-2
returns-in_err-walk_items-2 c = search (rules, three-walks)

pub returns : goal.returns
returns c = search (rules, three-walks)
