use Rattle.exports.proofs.orders.ordered.Goals as goal

pub returns-in-Same : goal.returns-in-Same
returns-in-Same c = rw c.in-Same.is

pub returns-in-FirstStarts : goal.returns-in-FirstStarts
returns-in-FirstStarts c = rw c.in-FirstStarts.is

pub returns-in-SecondStarts : goal.returns-in-SecondStarts
returns-in-SecondStarts c = rw c.in-SecondStarts.is

pub returns-in-Differ : goal.returns-in-Differ
returns-in-Differ c = rw c.in-Differ.is

pub returns-in-Refused : goal.returns-in-Refused
returns-in-Refused c = rw (c.in-Refused.is, c.number.ensures)
