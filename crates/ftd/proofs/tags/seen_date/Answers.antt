use native.Mathlib.Omega.{arith}
use borrow.Author.Rules.{rules}
use Rattle.ftd.proofs.tags.Walk.{date-none, date-one}
use Rattle.ftd.proofs.tags.seen_date.Goals as goal

pub returns-then-dates-eq0 : goal.returns-then-dates-eq0
returns-then-dates-eq0 c = search (rules, date-none)

pub be32-requires : goal.be32-requires
be32-requires c = (c.requires.0.one (omega (arith, c.requires.1, c.if-dates-eq0.false))).1

pub returns : goal.returns
returns c =
    date-one _ _ _ c.requires.0 (omega (arith, c.requires.1, c.if-dates-eq0.false)) _ c.be32.ensures
