use mathlib.Core.Path.{refl, ◌∙◌}
use borrow.Author.Rules.{rules}
use borrow.Author.Tests.{tests}
use Rattle.std.proofs.lemmas.Iterator.{YieldsList-from_range}
use Rattle.std.proofs.lemmas.Iterator.Search.{any_from_yields_List}
use Rattle.calendar.specs.Calendar.{counts, in_session}
use Rattle.calendar.proofs.Some.{some-range}
use Rattle.calendar.proofs.sessions.in_session.Goals as goal

pub returns : goal.returns
unfolding in_session
returns c =
    let p = counts c.args.only c.args.s.now c.args.second in
    any_from_yields_List p _ _ _ c.any.ensures.ran (YieldsList-from_range 0 8 8 refl refl) (λ x b q k. search (rules, tests))
    ∙ some-range p 8
