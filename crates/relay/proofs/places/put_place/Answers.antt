use mathlib.Core.Path.{refl}
use Rattle.relay.proofs.places.put_place.Goals as goal

-- src/places.rt:55:1
pub returns : goal.returns
returns c = rw (← c.flag_of.ensures) refl
