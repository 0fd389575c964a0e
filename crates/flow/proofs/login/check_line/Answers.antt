use borrow.Author.Rules.{rules}
use Rattle.flow.proofs.login.Checks.{by-series, by-day, by-zeros, in-line}
use Rattle.flow.proofs.login.check_line.Goals as goal

pub returns-then-starts_elsewhere : goal.returns-then-starts_elsewhere
returns-then-starts_elsewhere c = search (rules, by-series)

pub returns-then-before : goal.returns-then-before
returns-then-before c = search (rules, by-day)

pub returns-then-not_zero : goal.returns-then-not_zero
returns-then-not_zero c = search (rules, by-zeros)

pub returns : goal.returns
returns c = search (rules, in-line)
