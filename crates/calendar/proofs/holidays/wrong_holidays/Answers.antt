use mathlib.Core.Bool.{not}
use mathlib.Core.Path.{refl, ◌∙◌}
use lib.ListN.{length}
use borrow.Author.Rules.{rules}
use borrow.Author.Tests.{tests}
use Rattle.std.proofs.lemmas.Iterator.{YieldsList-from_slice}
use Rattle.std.proofs.lemmas.Iterator.Search.{any_from_yields_List}
use Rattle.calendar.specs.Calendar.{real_number, unreal}
use Rattle.calendar.proofs.Some.{some-list}
use Rattle.calendar.proofs.holidays.Laws.{holiday-many, holiday-else}
use Rattle.calendar.proofs.holidays.wrong_holidays.Goals as goal

pub returns-then-s-gt32 : goal.returns-then-s-gt32
returns-then-s-gt32 c = search (rules, tests, holiday-many)

pub returns-else-s-gt32 : goal.returns-else-s-gt32
returns-else-s-gt32 c =
    let s = c.args.s.now in
    any_from_yields_List (λ n. not (real_number n)) _ _ _ c.any.ensures.ran (YieldsList-from_slice s cc) (λ x b q k. search (rules, tests))
    ∙ (some-list (unreal s) s (λ n. not (real_number n)) (length s) refl (λ i k. refl) ∙ holiday-else s (search rules))
