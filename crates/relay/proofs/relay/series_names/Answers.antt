use mathlib.Core.Path.{◌≡◌, sym, ◌∙◌}
use mathlib.Core.List.{map}
use lib.ListN.{length, length-map, get_or}
use borrow.Author.Rules.{rules}
use native.Mathlib.Omega.{arith}
use Rattle.std.proofs.lemmas.List.{ext_get_or, get_or-map}
use Rattle.flow.specs.declared.receiver.KeptSeries.{KeptSeries}
use Rattle.flow.specs.Ends.{new_kept}
use Rattle.flow.proofs.series.Places.{unmapped}
use Rattle.relay.proofs.relay.series_names.Goals as goal

pub returns : goal.returns
returns c =
    let s = c.args.e.kept.series in
    let f = λ (x : KeptSeries). x.series in
    let k : length s ≡ 8 = search (rules, unmapped) in
    let long = c.map.ensures.items.long in
    ext_get_or 0 c.map.result (map f s) (long ∙ sym (length-map s f ∙ k))
    (λ i h.
    let t = c.map.ensures.items.at i (new_kept 0) 0 (omega (arith, long, h)) in
    let e : get_or c.map.result i 0 ≡ f (get_or s i (new_kept 0)) = search (rules, t.2.met) in
    e ∙ sym (get_or-map f s i (new_kept 0) 0 (omega (arith, long, k, h))))
