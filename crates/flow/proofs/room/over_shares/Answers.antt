use Prim.Native.Nat.{◌+◌, ◌<◌}
use mathlib.Core.Path.{refl}
use native.Mathlib.Omega.{arith}
use borrow.Author.Rules.{rules}
use lib.ListN.{get_or}
use Rattle.flow.specs.Ends.{no_series}
use Rattle.flow.proofs.room.Places.{share-over, share-fits, used-fits, share-turn, shares-all, shares-end}
use Rattle.flow.proofs.sender.Lookups.{places-eight}
use Rattle.flow.proofs.room.over_shares.Goals as goal

pub loop-i-init : goal.loop-i-init
loop-i-init c = (search rules, refl)

pub returns-then-i-day : goal.returns-then-i-day
returns-then-i-day c =
    let h = places-eight c.args.day _ c.well_formed.0 in
    shares-all c.args.day c.args.at c.args.more h c.loop-i.i c.loop-i.left c.args.room c.loop-i.invariant.1 c.if-i-day.true

pub returns-then-is_over : goal.returns-then-is_over
returns-then-is_over c =
    let h = places-eight c.args.day _ c.well_formed.0 in
    share-over c.args.day c.args.at c.args.more h c.loop-i.i c.more_at-extra.result c.if-i-day.false
    (omega (arith, h, c.loop-i-test.true)) c.more_at-extra.ensures c.loop-i.left c.args.room c.loop-i.invariant.1 c.is_over.result c.is_over.ensures
    c.if-is_over.true

pub share-left-requires : goal.share-left-requires
share-left-requires c =
    let h = places-eight c.args.day _ c.well_formed.0 in
    let fits =
    used-fits c.args.day c.args.at c.args.more h c.loop-i.i c.more_at-extra.result c.if-i-day.false
    (omega (arith, h, c.loop-i-test.true)) c.more_at-extra.ensures c.loop-i.left c.args.room c.loop-i.invariant.1 c.is_over.result c.is_over.ensures
    c.if-is_over.false in
    let small : (get_or c.args.day.series c.loop-i.i no_series).used + c.more_at-extra.result < 18446744073709551616 = omega arith in
    small

pub overflow_sub-left : goal.overflow_sub-left
overflow_sub-left c =
    let h = places-eight c.args.day _ c.well_formed.0 in
    let fits =
    share-fits c.args.day c.args.at c.args.more h c.loop-i.i c.more_at-extra.result c.if-i-day.false
    (omega (arith, h, c.loop-i-test.true)) c.more_at-extra.ensures c.loop-i.left c.args.room c.loop-i.invariant.1 c.is_over.result c.is_over.ensures
    c.if-is_over.false in
    omega (arith, c.share-left.ensures)

pub loop-i-preserved : goal.loop-i-preserved
loop-i-preserved c =
    let h = places-eight c.args.day _ c.well_formed.0 in
    let again =
    share-turn c.args.day c.args.at c.args.more h c.loop-i.i c.more_at-extra.result c.if-i-day.false
    (omega (arith, h, c.loop-i-test.true)) c.more_at-extra.ensures c.loop-i.left c.args.room c.loop-i.invariant.1 c.is_over.result c.is_over.ensures
    c.if-is_over.false c.share-left.result c.share-left.ensures in
    (search rules, again)

pub returns : goal.returns
returns c =
    let h = places-eight c.args.day _ c.well_formed.0 in
    shares-end c.args.day c.args.at c.args.more h c.loop-i.i c.loop-i.left c.args.room c.loop-i.invariant.1 (omega (arith, h, c.loop-i-test.false))
