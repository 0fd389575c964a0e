use native.Mathlib.Omega.{arith}
use borrow.Author.Rules.{rules}
use Rattle.ftd.proofs.tags.Walk.{place_none, place-one}
use Rattle.ftd.proofs.tags.seen_place.Goals as goal

pub returns-then-places-eq0 : goal.returns-then-places-eq0
returns-then-places-eq0 c = search (rules, place_none)

pub be16-requires : goal.be16-requires
be16-requires c = (c.requires.0.one (omega (arith, c.requires.1, c.if-places-eq0.false))).1

pub returns : goal.returns
returns c =
    place-one _ _ _ c.requires.0 (omega (arith, c.requires.1, c.if-places-eq0.false)) _ c.be16.ensures
