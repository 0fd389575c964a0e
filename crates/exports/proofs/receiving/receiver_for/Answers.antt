use borrow.Author.Rules.{rules}
use native.Mathlib.Omega.{arith}
use mathlib.Core.Path.{◌≡◌, sym, ◌∙◌}
use lib.ListN.{length}
use Rattle.flow.proofs.series.Places.{unmapped}
use Rattle.exports.specs.Receiving.{kept_for, live_for, receiver_for}
use Rattle.exports.proofs.Filled.{mapped}
use Rattle.exports.proofs.receiving.receiver_for.Goals as goal

pub returns : goal.returns
unfolding receiver_for
returns c =
    let eight : length c.args.s.series ≡ 8 = search (rules, unmapped) in
    let long : length c.map.result ≡ 8 = c.map.ensures.items.long in
    let each =
    mapped kept_for c.args.s.series c.map.result (eight ∙ sym long)
    (λ i d e h. let k = c.map.ensures.items.at i d e (omega arith) in search rules) in
    let other-long : length c.map-2.result ≡ 8 = c.map-2.ensures.items.long in
    let other =
    mapped live_for c.args.s.series c.map-2.result (eight ∙ sym other-long)
    (λ i d e h. let k = c.map-2.ensures.items.at i d e (omega arith) in search rules) in
    rw (each, other)
