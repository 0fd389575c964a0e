-- A series of the serving end by its place in the arrays: looked up and changed. Assumes nothing.
use Prim.Native.Nat.{ℕ, ◌+◌, ◌<◌}
use mathlib.Core.Path.{◌≡◌, ap}
use mathlib.Core.List.{List}
use lib.ListN.{length, get_or, set}
use mir.Val.{Val}
use denote.Laws.{Is}
use denote.Struct.Declared.{row}
use Rattle.flow.specs.contracts.sender.Day.{the_type as day-type}
use Rattle.flow.specs.contracts.sender.Sender.{the_type}
use Rattle.flow.specs.Types.{SeriesPlace}
use Rattle.flow.specs.declared.sender.Day.{Day}
use Rattle.flow.specs.declared.sender.Sender.{Sender}
use Rattle.flow.specs.Ends.{index_of, no_series, no_place, sender, day_series, published_of, reserve_of}
use Rattle.flow.specs.Ends.{used_of, place_of, grown_series, with_entry, with_place}
use Rattle.flow.specs.Helpers.{Finds, placed_at}
use Rattle.flow.proofs.ends.SenderLookups.{Eight}
use Rattle.std.specs.Prelude.{Some}

-- Both arrays of every value of the type have 8 places: `eight e _ (c .. .good .0)`, the end being the first parameter.
pub eight : (e : Sender) (vs : List Val) → Is (row the_type) e vs → Eight e
eight e vs g =
    record {
      series = g.1.1.0.1.1.1.1.0.1.0.1;
      places = g.1.1.1.0.1.1.0.1.0.1;
    }

-- The same of a day: `places-eight d _ (c .. .good .0)`.
pub places-eight : (d : Day) (vs : List Val) → Is (row day-type) d vs → length d.series ≡ 8
places-eight d vs g = g.1.1.1.1.0.1.0.1

-- What `find` answered, where it is a place.
pub found_at : (e : Sender) (s : ℕ) (f : SeriesPlace) (i : ℕ) → Finds e s f → f ≡ Some i → Finds e s (Some i)
found_at e s f i g u = rw u at g

pub found_inside : (e : Sender) (s : ℕ) (f : SeriesPlace) (i : ℕ) → Finds e s f → f ≡ Some i → i < 8
found_inside e s f i g u = (found_at e s f i g u).2

-- The place i is the one that `find` answers for the series s.
module _ (e : Sender) (s i : ℕ) (at : i ≡ index_of s (day_series e)) where
  pub published-at : (get_or e.day.series i no_series).published ≡ published_of e s
  unfolding published_of
  published-at = ap (λ (k : ℕ). (get_or e.day.series k no_series).published) at

  pub reserve-at : (get_or e.day.series i no_series).reserve ≡ reserve_of e s
  unfolding reserve_of
  reserve-at = ap (λ (k : ℕ). (get_or e.day.series k no_series).reserve) at

  pub used-at : (get_or e.day.series i no_series).used ≡ used_of e s
  unfolding used_of
  used-at = ap (λ (k : ℕ). (get_or e.day.series k no_series).used) at

  pub place_at : get_or e.seat.places i no_place ≡ place_of e s
  unfolding place_of
  place_at = ap (λ (k : ℕ). get_or e.seat.places k no_place) at

  -- One more published there, in an entry of so many bytes.
  pub entry_at : (size : ℕ)
      → sender e.day.date e.day.count
      (set e.day.series i (grown_series e s size))
      (e.day.used + size) e.seat.places
      ≡ with_entry e s size
  unfolding with_entry
  entry_at size = rw at

  -- Logged in there, with a number next, of which so many packets were written.
  pub placed-at : (next piece : ℕ) → placed_at e i next piece ≡ with_place e s next piece
  unfolding with_place
  placed-at next piece = rw at
