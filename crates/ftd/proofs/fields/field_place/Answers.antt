use mathlib.Core.Path.{◌≡◌, sym, ◌∙◌}
use borrow.Author.Rules.{rules}
use Rattle.std.proofs.lemmas.Iterator.Adapters.{option_map_id}
use Rattle.std.proofs.lemmas.Iterator.Consumers.{YieldsList-from_first, nth_from_yields_List}
use Rattle.std.specs.List.{slice_get}
use Rattle.ftd.specs.Fields.Helpers.{fields_from}
use Rattle.ftd.proofs.fields.Listed.{nth-inside, walk-inside, walk-nth}
use Rattle.ftd.proofs.fields.field_place.Goals as goal

pub returns : goal.returns
returns c =
    let found : c.nth.result ≡ slice_get (fields_from c.args.content.now 0) c.args.i =
    sym (option_map_id c.nth.result)
    ∙ nth_from_yields_List c.nth.result c.nth.new.self c.args.i c.nth.ensures.ran
    (YieldsList-from_first (λ p. p) (λ s. fields_from s.content.now s.at) (fields_from c.args.content.now 0) (search rules)) in (
      found ∙ walk-nth c.args.content.now c.args.i,
      rw found (nth-inside c.args.content.now _ c.args.i (walk-inside c.args.content.now)),
    )
