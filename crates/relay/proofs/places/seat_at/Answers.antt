use Rattle.relay.proofs.places.Written.{eight-places}
use borrow.Author.Rules.{rules}
use Rattle.relay.proofs.places.seat_at.Goals as goal

-- src/places.rt:26:1
pub returns : goal.returns
returns c = search (rules, eight-places)
