use native.Mathlib.Omega.{arith}
use mathlib.Core.Path.{refl, ◌∙◌}
use borrow.Author.Rules.{rules}
use borrow.Author.Tests.{tests}
use Rattle.std.proofs.lemmas.Iterator.{YieldsList-from_range}
use Rattle.std.proofs.lemmas.Iterator.Search.{any_from_yields_List}
use Rattle.calendar.specs.Calendar.{overlap}
use Rattle.calendar.proofs.Some.{some-range}
use Rattle.calendar.proofs.sessions.overlaps_before.Goals as goal

pub returns : goal.returns
returns c =
    let p = overlap c.args.s.now c.args.i in
    any_from_yields_List p _ _ _ c.any.ensures.ran (YieldsList-from_range 0 c.args.i c.args.i refl (omega arith)) (λ x b q k. search (rules, tests))
    ∙ some-range p c.args.i
