-- What is looked up in a serving end after one series was changed. Assumes nothing.
use Prim.Native.Nat.{ℕ, ◌+◌, ◌<◌}
use native.Mathlib.Omega.{arith}
use mathlib.Core.Path.{◌≡◌, refl, ap, ◌∙◌}
use mathlib.Core.List.{List}
use mathlib.Core.Bool.{true}
use lib.ListN.{length, get_or, length-set}
use lib.Seq.{get_or-set_same, get_or-set_other}
use Rattle.flow.specs.declared.sender.DaySeries.{DaySeries}
use Rattle.flow.specs.declared.sender.Sender.{Sender}
use Rattle.flow.specs.Ends.{member, index_of, no_series, grown_series, no_place, day_series, is_served, published_of, place_of}
use Rattle.flow.specs.Ends.{with_entry, with_place}
use Rattle.flow.proofs.ends.Lookups.{index-inside, index-differs, numbers-set, numbers-few}

-- Both arrays have 8 places, as in every value of the type.
pub record Eight (e : Sender) : Type 0 where
  pub series : length e.day.series ≡ 8
  pub places : length e.seat.places ≡ 8

-- The number of a place of the day's array.
abbrev pub number_in : DaySeries → ℕ
number_in x = x.series

module _ (e : Sender) (t : ℕ) (h : is_served e t ≡ true) where
  pub served-index : index_of t (day_series e) < length e.day.series
  unfolding is_served day_series
  served-index =
      let a = index-inside t (day_series e) h in
      let b = numbers-few number_in e.day.count e.day.series in
      omega arith

  pub served-apart : (s : ℕ) → (s ≡ t → ⊥) → index_of s (day_series e) ≡ index_of t (day_series e) → ⊥
  unfolding is_served
  served-apart s n = index-differs s t (day_series e) h n

  -- ─── One more is published ───

  pub series-entry : (size : ℕ) → day_series (with_entry e t size) ≡ day_series e
  unfolding with_entry day_series is_served
  series-entry size =
      numbers-set number_in e.day.count e.day.series t (grown_series e t size)
      refl h

  pub served-entry : (size s : ℕ) → is_served (with_entry e t size) s ≡ is_served e s
  unfolding is_served
  served-entry size s = ap (member s) (series-entry size)

  at_entry : (size s : ℕ) → published_of (with_entry e t size) s ≡ (get_or (with_entry e t size).day.series
      (index_of s (day_series e)) no_series).published
  unfolding published_of
  at_entry size s =
      ap (λ (l : List ℕ). (get_or (with_entry e t size).day.series (index_of s l) no_series).published)
      (series-entry size)

  pub published-entry : (size : ℕ) → published_of (with_entry e t size) t ≡ published_of e t + 1
  unfolding with_entry
  published-entry size =
      at_entry size t
      ∙ ap (λ (x : DaySeries). x.published)
      (get_or-set_same e.day.series (index_of t (day_series e)) (grown_series e t size)
      no_series served-index)

  pub published-other : (size s : ℕ) → (s ≡ t → ⊥) → published_of (with_entry e t size) s ≡ published_of e s
  unfolding with_entry published_of
  published-other size s n =
      at_entry size s
      ∙ ap (λ (x : DaySeries). x.published)
      (get_or-set_other e.day.series (index_of t (day_series e)) (index_of s (day_series e))
      (grown_series e t size) no_series
      (served-apart s n))

  pub place-entry : (size s : ℕ) → place_of (with_entry e t size) s ≡ place_of e s
  unfolding place_of with_entry
  place-entry size s = ap (λ (l : List ℕ). get_or e.seat.places (index_of s l) no_place) (series-entry size)

  -- ─── The number that is sent next, and how many packets of it were written ───

  pub series-next : (next piece : ℕ) → day_series (with_place e t next piece) ≡ day_series e
  unfolding with_place day_series
  series-next next piece = refl

  pub served-next : (next piece s : ℕ) → is_served (with_place e t next piece) s ≡ is_served e s
  unfolding is_served with_place day_series
  served-next next piece s = refl

  pub published-next : (next piece s : ℕ) → published_of (with_place e t next piece) s ≡ published_of e s
  unfolding published_of with_place day_series
  published-next next piece s = refl

  pub place-next : Eight e → (next piece : ℕ)
      → place_of (with_place e t next piece) t ≡ record { login = true; next = next; piece = piece }
  unfolding place_of with_place day_series
  place-next z next piece =
      get_or-set_same e.seat.places (index_of t (day_series e)) (record { login = true; next = next; piece = piece })
      no_place (let i = served-index in let a = z.series in let b = z.places in omega arith)

  pub place_other : (next piece s : ℕ) → (s ≡ t → ⊥) → place_of (with_place e t next piece) s ≡ place_of e s
  unfolding place_of with_place day_series
  place_other next piece s n =
      get_or-set_other e.seat.places (index_of t (day_series e)) (index_of s (day_series e))
      (record { login = true; next = next; piece = piece }) no_place (served-apart s n)

  -- ─── Both keep the places ───

  pub eight-entry : Eight e → (size : ℕ) → Eight (with_entry e t size)
  unfolding with_entry
  eight-entry z size =
      record {
        series = length-set e.day.series (index_of t (day_series e))
            (grown_series e t size) ∙ z.series;
        places = z.places;
      }

  pub eight-next : Eight e → (next piece : ℕ) → Eight (with_place e t next piece)
  unfolding with_place
  eight-next z next piece =
      record {
        series = z.series;
        places = length-set e.seat.places (index_of t (day_series e))
            (record { login = true; next = next; piece = piece }) ∙ z.places;
      }
