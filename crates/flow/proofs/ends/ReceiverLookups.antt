-- What is kept of a series and what it has on this connection, after one series was changed. Assumes nothing.
use Prim.Native.Nat.{ℕ, ◌+◌, ◌<◌, ◌≤◌}
use native.Mathlib.Omega.{arith}
use mathlib.Core.Path.{◌≡◌, refl, ap, ◌∙◌}
use mathlib.Core.List.{List}
use mathlib.Core.Bool.{true}
use lib.ListN.{length, get_or, set, length-set}
use lib.Seq.{get_or-set_same, get_or-set_other}
use Rattle.ftd.specs.Types.{TradeDate}
use Rattle.flow.specs.declared.receiver.KeptSeries.{KeptSeries}
use Rattle.flow.specs.declared.receiver.LiveSeries.{LiveSeries}
use Rattle.flow.specs.declared.receiver.Receiver.{Receiver}
use Rattle.flow.specs.Ends.{member, index_of, kept_series, is_open, kept_of, live_of, new_kept, no_live, with_series}
use Rattle.flow.specs.Ends.{part_start, all_parts}
use Rattle.flow.proofs.ends.Lookups.{index-inside, index-differs, numbers-set, numbers-few}

-- Both arrays have 8 places, as in every value of the type.
pub record Eight (e : Receiver) : Type 0 where
  pub kept : length e.kept.series ≡ 8
  pub live : length e.live.series ≡ 8

-- ─── What is kept: of any number of places ───

module _ (e : Receiver) (t : ℕ) (open-t : is_open e t ≡ true) where
  index-open : index_of t (kept_series e) < length (kept_series e)
  unfolding is_open
  index-open = index-inside t (kept_series e) open-t

  index_kept : index_of t (kept_series e) < length e.kept.series
  unfolding kept_series
  index_kept =
      let a = index-open in let b = numbers-few (λ (x : KeptSeries). x.series) e.kept.count
      e.kept.series in omega arith

  index-other : (s : ℕ) → (s ≡ t → ⊥) → index_of s (kept_series e) ≡ index_of t (kept_series e) → ⊥
  unfolding is_open
  index-other s other = index-differs s t (kept_series e) open-t other

  module _ (date : TradeDate) (last : ℕ) (live : LiveSeries) where
    pub series-with : kept_series (with_series e t date last live) ≡ kept_series e
    unfolding with_series kept_series is_open
    series-with =
        numbers-set (λ (x : KeptSeries). x.series) e.kept.count e.kept.series t
        (record { series = t; date = date; last = last }) refl open-t

    pub open-with : (s : ℕ) → is_open (with_series e t date last live) s ≡ is_open e s
    unfolding is_open
    open-with s = ap (member s) series-with

    kept-place : (s : ℕ) → kept_of (with_series e t date last live) s
        ≡ get_or (set e.kept.series (index_of t (kept_series e)) (record { series = t; date = date; last = last }))
        (index_of s (kept_series e)) (new_kept 0)
    unfolding kept_of with_series
    kept-place s =
        ap (λ (l : List ℕ). get_or
        (set e.kept.series (index_of t (kept_series e)) (record { series = t; date = date; last = last }))
        (index_of s l) (new_kept 0))
        series-with

    -- The series that was changed, and any other, open or not.
    pub kept-with : kept_of (with_series e t date last live) t ≡ record { series = t; date = date; last = last }
    kept-with = kept-place t ∙ get_or-set_same e.kept.series (index_of t (kept_series e)) _ (new_kept 0) index_kept

    pub kept-beside : (s : ℕ) → (s ≡ t → ⊥) → kept_of (with_series e t date last live) s ≡ kept_of e s
    unfolding kept_of
    kept-beside s other =
        kept-place s ∙ get_or-set_other e.kept.series (index_of t (kept_series e)) (index_of s (kept_series e)) _
        (new_kept 0) (index-other s other)

-- ─── All of it, of 8 places each ───

module _ (e : Receiver) (eight : Eight e) where
  module _ (t : ℕ) (open-t : is_open e t ≡ true) where
    index_live : index_of t (kept_series e) < length e.live.series
    index_live = omega (arith, index_kept e t open-t, eight.kept, eight.live)

    -- Its part lies within all parts.
    pub part-inside : part_start e t + 32768 ≤ all_parts e
    unfolding part_start all_parts
    part-inside = omega (arith, index-open e t open-t)

    module _ (date : TradeDate) (last : ℕ) (live : LiveSeries) where
      pub series-stay : kept_series (with_series e t date last live) ≡ kept_series e
      series-stay = series-with e t open-t date last live

      pub open_stays : (s : ℕ) → is_open (with_series e t date last live) s ≡ is_open e s
      open_stays = open-with e t open-t date last live

      pub part_stays : (s : ℕ) → part_start (with_series e t date last live) s ≡ part_start e s
      unfolding part_start
      part_stays s = rw series-stay

      pub parts_stay : all_parts (with_series e t date last live) ≡ all_parts e
      unfolding all_parts
      parts_stay = rw series-stay

      live-place : (s : ℕ) → live_of (with_series e t date last live) s ≡ get_or
          (set e.live.series (index_of t (kept_series e)) live) (index_of s (kept_series e)) no_live
      unfolding live_of with_series
      live-place s =
          ap (λ (l : List ℕ). get_or (set e.live.series (index_of t (kept_series e)) live) (index_of s l) no_live)
          series-stay

      -- The series that was changed.
      pub kept_same : kept_of (with_series e t date last live) t ≡ record { series = t; date = date; last = last }
      kept_same = kept-with e t open-t date last live

      pub live_same : live_of (with_series e t date last live) t ≡ live
      live_same = live-place t ∙ get_or-set_same e.live.series (index_of t (kept_series e)) live no_live index_live

      -- Any other, open or not.
      module _ (s : ℕ) (other : s ≡ t → ⊥) where
        pub kept-other : kept_of (with_series e t date last live) s ≡ kept_of e s
        kept-other = kept-beside e t open-t date last live s other

        pub live-other : live_of (with_series e t date last live) s ≡ live_of e s
        unfolding live_of
        live-other =
            live-place s ∙ get_or-set_other e.live.series (index_of t (kept_series e)) (index_of s (kept_series e)) live
            no_live (index-other e t open-t s other)

      -- The places stay.
      pub eight-stays : Eight (with_series e t date last live)
      unfolding with_series
      eight-stays =
          record {
            kept = length-set e.kept.series (index_of t (kept_series e)) _ ∙ eight.kept;
            live = length-set e.live.series (index_of t (kept_series e)) live ∙ eight.live;
          }

-- ─── As one: series t has these now, and every other series what it had ───

pub record Changed (e after : Receiver) (t : ℕ) (d : TradeDate) (n : ℕ) (l : LiveSeries) : Type 0 where
  pub opens : (s : ℕ) → is_open after s ≡ is_open e s
  pub date : (kept_of after t).date ≡ d
  pub last : (kept_of after t).last ≡ n
  pub live : live_of after t ≡ l
  pub others-kept : (s : ℕ) → (s ≡ t → ⊥) → kept_of after s ≡ kept_of e s
  pub others-live : (s : ℕ) → (s ≡ t → ⊥) → live_of after s ≡ live_of e s
  pub parts : (s : ℕ) → part_start after s ≡ part_start e s
  pub all-parts : all_parts after ≡ all_parts e
  pub eight : Eight after

pub with-changed : (e : Receiver) → Eight e → (t : ℕ) → is_open e t ≡ true
    → (date : TradeDate) (last : ℕ) (live : LiveSeries)
    → Changed e (with_series e t date last live) t date last live
with-changed e eight t o date last live =
    record {
      opens = open_stays e eight t o date last live;
      date = ap (λ (x : KeptSeries). x.date) (kept_same e eight t o date last live);
      last = ap (λ (x : KeptSeries). x.last) (kept_same e eight t o date last live);
      live = live_same e eight t o date last live;
      others-kept = kept-other e eight t o date last live;
      others-live = live-other e eight t o date last live;
      parts = part_stays e eight t o date last live;
      all-parts = parts_stay e eight t o date last live;
      eight = eight-stays e eight t o date last live;
    }
