use Rattle.flow.proofs.sender.Lookups.{found_inside}
use Rattle.relay.proofs.relay.AtSeats.{keep-none, keep_at, served-scaled}
use mathlib.Core.Path.{◌∙◌}
use borrow.Author.Rules.{rules}
use Rattle.relay.proofs.relay.keep_place.Goals as goal

-- src/relay.rt:131:25
pub offset_bounds-end-i : goal.offset_bounds-end-i
offset_bounds-end-i c = search (rules, served-scaled)

-- src/relay.rt:131:25
pub bounds-end-i : goal.bounds-end-i
bounds-end-i c = search (rules, found_inside)

-- src/relay.rt:132:13
pub put_place-requires : goal.put_place-requires
put_place-requires c = search (rules, found_inside)

-- src/relay.rt:123:1
pub returns-in_default : goal.returns-in_default
returns-in_default c = search (rules, keep-none)

-- src/relay.rt:123:1
pub returns-in-Some : goal.returns-in-Some
returns-in-Some c =
    c.put_place.ensures
    ∙ keep_at c.args.places.now c.args.seat c.args.series c.args.end c.find.result c.in-Some.i c.find.ensures
    c.in-Some.is
