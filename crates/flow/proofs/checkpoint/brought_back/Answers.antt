use borrow.Author.Rules.{rules}
use Rattle.flow.proofs.receiver.Lookups.{found_inside, found-scaled}
use Rattle.flow.proofs.checkpoint.Back.{brought-none, brought-found}
use Rattle.flow.proofs.checkpoint.brought_back.Goals as goal

pub offset_bounds-from-i : goal.offset_bounds-from-i
offset_bounds-from-i c = search (rules, found-scaled)

pub bounds-from-i : goal.bounds-from-i
bounds-from-i c = search (rules, found_inside)

pub returns-in_default : goal.returns-in_default
returns-in_default c = search (rules, brought-none)

pub returns : goal.returns
returns c = search (rules, brought-found)
