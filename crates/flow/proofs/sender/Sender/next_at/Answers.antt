use Rattle.flow.proofs.sender.Sends.{next-outside, next-none, next-damaged, next-found}
use borrow.Author.Rules.{rules}
use borrow.Author.Tests.{not-true, not-false}
use Rattle.flow.proofs.sender.Sender.next_at.Goals as goal

pub returns-then-self-i : goal.returns-then-self-i
returns-then-self-i c = next-none _ _ _ _ c.requires (not-false _ c.if-not-place.false) c.if-self-i.true

pub returns-in-None : goal.returns-in-None
returns-in-None c =
    next-damaged _ _ _ _ c.requires (not-false _ c.if-not-place.false) c.if-self-i.false (search rules)
    (rw c.in-None.is at c.find_entry.ensures)

pub returns-in-Some : goal.returns-in-Some
returns-in-Some c =
    next-found _ _ _ _ c.requires (not-false _ c.if-not-place.false) c.if-self-i.false (search rules) _ _
    (rw c.in-Some.is at c.find_entry.ensures)

pub returns-then-not-place : goal.returns-then-not-place
returns-then-not-place c = next-outside _ _ _ _ c.requires (not-true _ c.if-not-place.true)
