use Prim.Native.Nat.{◌≤◌}
use lib.ListN.{length}
use mathlib.Core.Logic.{inl}
use mathlib.Core.Path.{◌∙◌}
use native.Mathlib.Omega.{arith}
use borrow.Author.Rules.{rules}
use borrow.Author.Tests.{tests}
use Rattle.std.proofs.lemmas.Iterator.Consumers.{YieldsList-from_filter, YieldsList-from_first, count_from_yields_List}
use Rattle.ftd.specs.Fields.Helpers.{fields_from}
use Rattle.ftd.proofs.fields.Listed.{has_fid, walk-few, walk-counted}
use Rattle.ftd.proofs.fields.count_field.Goals as goal

pub count-requires-clause-fits : goal.count-requires-clause-fits
count-requires-clause-fits c =
    let few : length (fields_from c.filter.result.iter.content.now c.filter.result.iter.at) ≤ length c.args.content.now =
    rw (c.filter.ensures.source, c.walk.ensures.0, c.walk.ensures.1) (walk-few c.args.content.now) in
    inl (omega arith)

pub returns : goal.returns
returns c =
    count_from_yields_List c.filter.result _ c.count.ensures.ran
    (YieldsList-from_filter _ (has_fid c.args.fid)
    (YieldsList-from_first (λ p. p) (λ s. fields_from s.content.now s.at) (fields_from c.args.content.now 0) (search rules))
    c.filter.ensures.closure (λ x b q k. search (rules, tests)))
    ∙ walk-counted c.args.fid c.args.content.now
