use borrow.Author.Rules.{rules}
use mathlib.Core.Path.{◌≡◌, refl}
use lib.ListN.{length}
use Rattle.flow.proofs.series.Places.{unmapped}
use Rattle.exports.specs.Receiving.{kept_numbers, receiver_numbers}
use Rattle.exports.proofs.Filled.{paired-turn, paired-end}
use Rattle.exports.proofs.receiving.receiver_numbers.Goals as goal

pub loop-i-init : goal.loop-i-init
loop-i-init c = (refl, refl)

pub loop-i-preserved : goal.loop-i-preserved
loop-i-preserved c =
    let a : length c.args.e.kept.series ≡ 8 = search (rules, unmapped) in
    let b : length c.args.e.live.series ≡ 8 = search (rules, unmapped) in
    rw c.numbers.ensures
    (paired-turn kept_numbers c.args.e.kept.series c.args.e.live.series a b c.loop-i.one-items c.loop-i.i _ _ c.loop-i.invariant (search rules))

pub returns : goal.returns
unfolding receiver_numbers
returns c =
    let a : length c.args.e.kept.series ≡ 8 = search (rules, unmapped) in
    let b : length c.args.e.live.series ≡ 8 = search (rules, unmapped) in
    let each = paired-end kept_numbers c.args.e.kept.series c.args.e.live.series a b c.loop-i.one-items c.loop-i.i c.loop-i.invariant (search rules) in
    rw each
