use borrow.Author.Rules.{rules}
use Rattle.ftd.proofs.item.Readings.{place-behind, place_short, no_place, place_read}
use Rattle.ftd.proofs.item.read_item.Goals as goal
use Rattle.ftd.proofs.item.read_item.Goals.{then-field-start-via-then-field-start, then-field-start-via-else-field-start+then-field-start-2}

pub returns-then-field-start : goal.returns-then-field-start
returns-then-field-start c =
    elim c.then-field-start.branch [
      | then-field-start-via-then-field-start w ↦ search (rules, place-behind)
      | then-field-start-via-else-field-start+then-field-start-2 w ↦ search (rules, place_short)
    ]

pub returns-in_default : goal.returns-in_default
returns-in_default c = search (rules, no_place)

pub returns : goal.returns
returns c = search (rules, place_read)
