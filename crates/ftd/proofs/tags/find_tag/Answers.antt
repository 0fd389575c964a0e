use mathlib.Core.Path.{◌≡◌, sym, ◌∙◌}
use borrow.Author.Rules.{rules}
use borrow.Author.Tests.{tests}
use Rattle.std.proofs.lemmas.Iterator.Adapters.{option_map_id}
use Rattle.std.proofs.lemmas.Iterator.Consumers.{YieldsList-from_first}
use Rattle.std.proofs.lemmas.Iterator.Search.{find_from_yields_List}
use Rattle.std.specs.List.{find}
use Rattle.ftd.specs.Tags.Helpers.{tags_from}
use Rattle.ftd.proofs.tags.Listed.{has_kind, data_of, mapped, walk-inside, walk-first}
use Rattle.ftd.proofs.tags.find_tag.Goals as goal

pub returns : goal.returns
returns c =
    let found : c.find.result ≡ find (has_kind c.args.kind) (tags_from c.args.extension.now 0) =
    sym (option_map_id c.find.result)
    ∙ find_from_yields_List (has_kind c.args.kind) c.find.new.self _ _ c.find.ensures.ran
    (YieldsList-from_first (λ p. p) (λ s. tags_from s.extension.now s.at) (tags_from c.args.extension.now 0)
    (search rules))
    (λ x b q k. search (rules, tests)) in
    let placed : c.map.result ≡ data_of c.find.result =
    mapped c.find.result c.map.result c.map.ensures.cases (λ t s k. search (rules, k)) in (
      placed ∙ rw found (walk-first c.args.kind c.args.extension.now),
      rw (placed, found) (walk-inside c.args.extension.now (has_kind c.args.kind)),
    )
