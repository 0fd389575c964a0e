use native.Mathlib.Omega.{arith}
use mathlib.Core.Path.{refl, ◌∙◌}
use borrow.Author.Rules.{rules}
use borrow.Author.Tests.{tests}
use Rattle.std.proofs.lemmas.Iterator.{YieldsList-from_range}
use Rattle.std.proofs.lemmas.Iterator.Search.{any_from_yields_List}
use Rattle.calendar.specs.Calendar.{overlaps_before}
use Rattle.calendar.proofs.Some.{some-range}
use Rattle.calendar.proofs.sessions.any_overlap.Goals as goal

pub returns : goal.returns
returns c =
    let p = overlaps_before c.args.s.now in
    any_from_yields_List p _ _ _ c.any.ensures.ran (YieldsList-from_range 0 c.args.n c.args.n refl (omega arith)) (λ x b q k. search (rules, tests))
    ∙ some-range p c.args.n
