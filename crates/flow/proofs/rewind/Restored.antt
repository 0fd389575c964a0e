-- A receiving end that was brought back: every open series has what was kept of it, and none a login or a chain. Assumes
-- nothing.
use Prim.Native.Nat.{ℕ, zero, suc}
use mathlib.Core.Path.{◌≡◌, refl, ap, ◌∙◌}
use mathlib.Core.List.{List, [], ◌∷◌, map}
use mathlib.Core.Bool.{Bool, true, false, cond, ◌||◌}
use borrow.Author.Tests.{eqb-true}
use lib.ListN.{get_or, take, length-map}
use lib.Dec.{eqb}
use Rattle.flow.specs.declared.receiver.KeptSeries.{KeptSeries}
use Rattle.flow.specs.declared.receiver.Kept.{Kept}
use Rattle.flow.specs.declared.receiver.Receiver.{Receiver}
use Rattle.flow.specs.Ends.{member, index_of, new_kept, no_live, kept_series, is_open, kept_of, live_of, day_of, last_of}
use Rattle.flow.specs.Receiving.{connect_of}
use Rattle.flow.specs.Checkpoints.{resting_of, brought_back, restored}
use Rattle.flow.specs.Rewind.{AsAt}
use Rattle.flow.proofs.common.Bools.{clash}
use Rattle.flow.proofs.ends.ReceiverLookups.{Eight}
use Rattle.flow.proofs.ends.ReceiverOpened.{connect-live}

abbrev number_in : KeptSeries → ℕ
number_in x = x.series

-- What is looked up of an end is looked up of its durable part.
pub resting-open : (e : Receiver) (s : ℕ) → is_open (resting_of e.kept) s ≡ is_open e s
unfolding is_open kept_series
resting-open e s = refl

pub resting-kept : (e : Receiver) (s : ℕ) → kept_of (resting_of e.kept) s ≡ kept_of e s
unfolding kept_of kept_series
resting-kept e s = refl

pub resting-same : (e : Receiver) → AsAt (resting_of e.kept) e
resting-same e s = rw (resting-open e s, resting-kept e s) (refl, refl)

module _ (e : Receiver) (kept : Kept) where
  abbrev after : Receiver
  after = restored e kept

  abbrev then : Receiver
  then = resting_of kept

  -- ─── The series stay ───

  numbers_stay : (n : ℕ) (l : List KeptSeries)
      → map number_in (take n (map (brought_back kept) l)) ≡ map number_in (take n l)
  numbers_stay zero l = refl
  numbers_stay (suc n) [] = refl
  numbers_stay (suc n) (x ∷ l) = ap (λ (r : List ℕ). x.series ∷ r) (numbers_stay n l)

  pub restored-series : kept_series after ≡ kept_series e
  unfolding restored kept_series
  restored-series = numbers_stay e.kept.count e.kept.series

  pub restored-open : (s : ℕ) → is_open after s ≡ is_open e s
  unfolding is_open
  restored-open s = ap (member s) restored-series

  pub restored-eight : Eight e → Eight after
  unfolding restored
  restored-eight h = record { kept = length-map e.kept.series (brought_back kept) ∙ h.kept; live = refl }

  idle : after ≡ connect_of after
  unfolding restored connect_of
  idle = refl

  pub restored-live : (s : ℕ) → live_of after s ≡ no_live
  restored-live s = go after idle
    where
      go : (r : Receiver) → r ≡ connect_of r → live_of r s ≡ no_live
      go r q = ap (λ (x : Receiver). live_of x s) q ∙ connect-live r s

  -- ─── What is kept of them ───

  -- Where the series is open.
  at_place : (s n : ℕ) (l : List KeptSeries) → member s (map number_in (take n l)) ≡ true →
      let x = get_or (map (brought_back kept) l) (index_of s (map number_in (take n l))) (new_kept 0) in
      (x.date ≡ day_of then s) × (x.last ≡ last_of then s)
  at_place s zero l h = clash _ h refl
  at_place s (suc n) [] h = clash _ h refl
  at_place s (suc n) (x ∷ l) h = go (eqb x.series s) refl h (at_place s n l)
    where
      go : (b : Bool) → eqb x.series s ≡ b → (b || member s (map number_in (take n l))) ≡ true
          → (member s (map number_in (take n l)) ≡ true →
          let y = get_or (map (brought_back kept) l) (index_of s (map number_in (take n l))) (new_kept 0) in
          (y.date ≡ day_of then s) × (y.last ≡ last_of then s)) →
          let y = get_or (brought_back kept x ∷ map (brought_back kept) l)
          (cond b 0 (suc (index_of s (map number_in (take n l))))) (new_kept 0) in
          (y.date ≡ day_of then s) × (y.last ≡ last_of then s)
      go true q h f = let z : x.series ≡ s = eqb-true x.series s q in rw z (refl, refl)
      go false q h f = f h

  kept-place : (s : ℕ) → kept_of after s ≡ get_or (map (brought_back kept) e.kept.series) (index_of s (kept_series e))
      (new_kept 0)
  unfolding kept_of restored
  kept-place s =
      ap (λ (l : List ℕ). get_or (map (brought_back kept) e.kept.series) (index_of s l) (new_kept 0)) restored-series

  open_kept : (s : ℕ) → is_open e s ≡ true
      → ((kept_of after s).date ≡ day_of then s) × ((kept_of after s).last ≡ last_of then s)
  unfolding is_open kept_series
  open_kept s o = rw (kept-place s) (at_place s e.kept.count e.kept.series o)

  -- If what was open then is open now.
  pub restored-as : ((s : ℕ) → is_open then s ≡ true → is_open e s ≡ true) → AsAt after then
  restored-as older s = go (is_open e s) refl
    where
      go : (b : Bool) → is_open e s ≡ b → (day_of after s ≡ day_of then s) × (last_of after s ≡ last_of then s)
      go true o =
          let x = open_kept s o in
          let q : is_open after s ≡ true = restored-open s ∙ o in
          rw q x
      go false o = closed (is_open then s) refl
        where
          closed : (b : Bool) → is_open then s ≡ b → (day_of after s ≡ day_of then s) × (last_of after s ≡ last_of then s)
          closed true p = clash _ (older s p) o
          closed false p =
              let q : is_open after s ≡ false = restored-open s ∙ o in
              rw (q, p) (refl, refl)

  -- Of every place, in use or not: a claim of whatever was brought back.
  each-place : (P : KeptSeries → Type 0) → ((x : KeptSeries) → P (brought_back kept x)) → P (new_kept 0)
      → (l : List KeptSeries) (i : ℕ) → P (get_or (map (brought_back kept) l) i (new_kept 0))
  each-place P f z [] i = z
  each-place P f z (x ∷ l) zero = f x
  each-place P f z (x ∷ l) (suc i) = each-place P f z l i

  pub restored-each : (P : KeptSeries → Type 0) → ((x : KeptSeries) → P (brought_back kept x)) → P (new_kept 0)
      → (s : ℕ) → P (kept_of after s)
  restored-each P f z s =
      rw (kept-place s) (each-place P f z e.kept.series (index_of s (kept_series e)))
