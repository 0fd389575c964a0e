use mathlib.Core.Path.{◌≡◌, sym, ◌∙◌}
use borrow.Author.Rules.{rules}
use borrow.Author.Tests.{tests}
use Rattle.std.proofs.lemmas.Iterator.Adapters.{option_map_id}
use Rattle.std.proofs.lemmas.Iterator.Consumers.{YieldsList-from_first}
use Rattle.std.proofs.lemmas.Iterator.Search.{find_from_yields_List}
use Rattle.std.specs.List.{find}
use Rattle.ftd.specs.Fields.Helpers.{fields_from}
use Rattle.ftd.proofs.fields.Listed.{has_fid, find-inside, walk-inside, walk-first}
use Rattle.ftd.proofs.fields.first_field.Goals as goal

pub returns : goal.returns
returns c =
    let found : c.find.result ≡ find (has_fid c.args.fid) (fields_from c.args.content.now 0) =
    sym (option_map_id c.find.result)
    ∙ find_from_yields_List (has_fid c.args.fid) c.find.new.self _ _ c.find.ensures.ran
    (YieldsList-from_first (λ p. p) (λ s. fields_from s.content.now s.at) (fields_from c.args.content.now 0) (search rules))
    (λ x b q k. search (rules, tests)) in (
      found ∙ walk-first c.args.fid c.args.content.now,
      rw found (find-inside c.args.content.now (has_fid c.args.fid) _ (walk-inside c.args.content.now)),
    )
