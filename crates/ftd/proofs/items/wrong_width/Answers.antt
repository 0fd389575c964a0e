use mathlib.Core.Path.{◌∙◌}
use borrow.Author.Rules.{rules}
use borrow.Author.Tests.{tests}
use Rattle.std.proofs.lemmas.Iterator.Consumers.{YieldsList-from_first}
use Rattle.std.proofs.lemmas.Iterator.Search.{any_from_yields_List}
use Rattle.ftd.specs.Fields.Helpers.{fields_from}
use Rattle.ftd.proofs.items.Walk.{wide_otherwise, walk-widths}
use Rattle.ftd.proofs.items.wrong_width.Goals as goal

pub returns : goal.returns
returns c =
    any_from_yields_List wide_otherwise c.any.new.self _ _ c.any.ensures.ran
    (YieldsList-from_first (λ p. p) (λ s. fields_from s.content.now s.at) (fields_from c.args.content.now 0) (search rules))
    (λ x b q k. search (rules, tests))
    ∙ walk-widths c.args.content.now
