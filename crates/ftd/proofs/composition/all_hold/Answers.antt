use Prim.Native.Nat.{ℕ}
use mathlib.Core.Path.{refl, ◌∙◌}
use borrow.Author.Rules.{rules}
use borrow.Author.Tests.{tests}
use Rattle.std.proofs.lemmas.Iterator.{YieldsList-from_range}
use Rattle.std.proofs.lemmas.Iterator.Search.{all_from_yields_List}
use Rattle.ftd.specs.Composition.{line_at, line_holds}
use Rattle.ftd.proofs.composition.Lines.{lines-all}
use Rattle.ftd.proofs.composition.all_hold.Goals as goal

pub returns : goal.returns
returns g c content counts =
    all_from_yields_List (λ (i : ℕ). line_holds (line_at i) c.args.tid c.args.direction content) _ _ _
    c.all.ensures.ran (YieldsList-from_range 0 82 82 refl refl) (λ x b q k. search (rules, tests, counts))
    ∙ lines-all c.args.tid c.args.direction content
