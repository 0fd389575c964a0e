use borrow.Author.Rules.{rules}
use Rattle.flow.proofs.receiver.Lookups.{found_inside}
use Rattle.flow.proofs.confirm.Rows.{confirm-content, confirm-unknown, confirm-found}
use Rattle.flow.proofs.confirm.confirm_with.Goals as goal

pub confirm_at-requires : goal.confirm_at-requires
confirm_at-requires c = search (rules, found_inside)

pub returns-in-Err : goal.returns-in-Err
returns-in-Err c = search (rules, confirm-content)

pub returns-in_default-find : goal.returns-in_default-find
returns-in_default-find c = search (rules, confirm-unknown)

pub returns : goal.returns
returns c = search (rules, confirm-found)
