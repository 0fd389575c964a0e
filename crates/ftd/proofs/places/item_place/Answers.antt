use borrow.Author.Rules.{rules}
use Rattle.ftd.proofs.places.Walk.{place-unknown, place-start, place_end, place_here, place-turn}
use Rattle.ftd.proofs.places.item_place.Goals as goal

pub returns-then-fid-gt-LAST_FID : goal.returns-then-fid-gt-LAST_FID
returns-then-fid-gt-LAST_FID c = search (rules, place-unknown)

pub loop-row-init : goal.loop-row-init
loop-row-init c = (search rules, search rules, search (rules, place-start))

pub returns-then-left-eq0 : goal.returns-then-left-eq0
returns-then-left-eq0 c = search (rules, place_here)

pub loop-row-preserved : goal.loop-row-preserved
loop-row-preserved c = (search rules, search rules, search (rules, place-turn))

pub returns : goal.returns
returns c = search (rules, place_end)
