use borrow.Author.Rules.{rules}
use Rattle.book.proofs.calls.Steps.{buying-step, selling-step}
use borrow.Author.Rules.{rules}
use Rattle.book.proofs.calls.apply_quotation.Goals as goal

pub returns-then-buying : goal.returns-then-buying
returns-then-buying c = search (rules, buying-step)

pub returns : goal.returns
returns c = search (rules, selling-step)
