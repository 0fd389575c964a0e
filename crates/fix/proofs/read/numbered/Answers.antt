use borrow.Author.Rules.{rules}
use Rattle.fix.proofs.read.Judging.{numbered_next, numbered-gap, numbered-again, numbered-low}
use Rattle.fix.proofs.read.numbered.Goals as goal

pub returns-then-m-expected : goal.returns-then-m-expected
returns-then-m-expected c = search (rules, numbered_next)

pub returns-then-expected-m : goal.returns-then-expected-m
returns-then-expected-m c = search (rules, numbered-gap)

pub returns-then-duplicate : goal.returns-then-duplicate
returns-then-duplicate c = search (rules, numbered-again)

pub returns : goal.returns
returns c = search (rules, numbered-low)
