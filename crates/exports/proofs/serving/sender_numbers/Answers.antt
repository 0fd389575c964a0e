use borrow.Author.Rules.{rules}
use mathlib.Core.Path.{◌≡◌, refl}
use lib.ListN.{length}
use Rattle.flow.proofs.series.Places.{unmapped}
use Rattle.exports.specs.Serving.{served_numbers, sender_numbers}
use Rattle.exports.proofs.Filled.{paired-turn, paired-end}
use Rattle.exports.proofs.serving.sender_numbers.Goals as goal

pub loop-i-init : goal.loop-i-init
loop-i-init c = (refl, refl)

pub loop-i-preserved : goal.loop-i-preserved
loop-i-preserved c =
    let a : length c.args.e.day.series ≡ 8 = search (rules, unmapped) in
    let b : length c.args.e.seat.places ≡ 8 = search (rules, unmapped) in
    rw c.served.ensures
    (paired-turn served_numbers c.args.e.day.series c.args.e.seat.places a b c.loop-i.all c.loop-i.i _ _ c.loop-i.invariant (search rules))

pub returns : goal.returns
unfolding sender_numbers
returns c =
    let a : length c.args.e.day.series ≡ 8 = search (rules, unmapped) in
    let b : length c.args.e.seat.places ≡ 8 = search (rules, unmapped) in
    let each = paired-end served_numbers c.args.e.day.series c.args.e.seat.places a b c.loop-i.all c.loop-i.i c.loop-i.invariant (search rules) in
    rw (c.date.ensures, c.dated.ensures, each)
