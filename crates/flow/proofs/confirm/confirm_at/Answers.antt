use borrow.Author.Rules.{rules}
use Rattle.flow.proofs.confirm.Rows.{confirm-day, confirm-number, confirm-login}
use Rattle.flow.proofs.confirm.confirm_at.Goals as goal

pub returns-then-wrong_date : goal.returns-then-wrong_date
returns-then-wrong_date c = search (rules, confirm-day)

pub returns-then-not_zero : goal.returns-then-not_zero
returns-then-not_zero c = search (rules, confirm-number)

pub returns : goal.returns
returns c = search (rules, confirm-login)
