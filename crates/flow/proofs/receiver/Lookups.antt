-- A series of the receiving end by its place in the arrays: looked up and changed. Assumes nothing.
use Prim.Native.Nat.{ℕ, ◌<◌, ◌≤◌, ◌*◌, ◌^◌}
use mathlib.Core.Path.{◌≡◌, sym, ap, ◌∙◌}
use mathlib.Core.List.{List}
use lib.ListN.{length, length-map, get_or, take}
use lib.Seq.{length-take-le, take_all}
use mir.Val.{Val, Fits}
use mir.Syntax.{w64}
use borrow.Author.Rules.{scaled_Fits}
use denote.Laws.{Is}
use denote.Struct.Declared.{row}
use Rattle.ftd.specs.Types.{TradeDate}
use Rattle.flow.specs.contracts.receiver.Receiver.{the_type}
use Rattle.flow.specs.Types.{SeriesPlace}
use Rattle.flow.specs.declared.receiver.KeptSeries.{KeptSeries}
use Rattle.flow.specs.declared.receiver.LiveSeries.{LiveSeries}
use Rattle.flow.specs.declared.receiver.Receiver.{Receiver}
use Rattle.flow.specs.Ends.{index_of, new_kept, no_live, kept_series, kept_of, live_of, with_series, part_start, all_parts}
use Rattle.flow.specs.Helpers.{FindsKept, series_at}
use Rattle.flow.proofs.ends.ReceiverLookups.{Eight}
use Rattle.std.specs.Prelude.{Some}

-- The number of a series kept.
abbrev pub kept_number : KeptSeries → ℕ
kept_number x = x.series

-- Both arrays of every value of the type have 8 places: `eight e _ (c .. .good .0)`, the end being the first parameter.
pub eight : (e : Receiver) (vs : List Val) → Is (row the_type) e vs → Eight e
eight e vs g =
    record {
      kept = g.1.1.0.1.1.1.0.1.0.1;
      live = g.1.1.1.0.1.1.0.1.0.1;
    }

-- What `find` answered, where it is a place.
pub found_at : (e : Receiver) (s : ℕ) (f : SeriesPlace) (i : ℕ) → FindsKept e s f → f ≡ Some i → FindsKept e s (Some i)
found_at e s f i g u = rw u at g

pub found_inside : (e : Receiver) (s : ℕ) (f : SeriesPlace) (i : ℕ) → FindsKept e s f → f ≡ Some i → i < 8
found_inside e s f i g u = (found_at e s f i g u).2

-- The place scaled by an element's size.
pub found-scaled : (e : Receiver) (s : ℕ) (f : SeriesPlace) (i size : ℕ) → FindsKept e s f → f ≡ Some i
    → 8 * size < 2 ^ 63 → Fits w64 (i * size)
found-scaled e s f i size g u q = scaled_Fits i 8 size (found_inside e s f i g u) q

-- The place i is the one that `find` answers for the series s.
module _ (e : Receiver) (s i : ℕ) (at : i ≡ index_of s (kept_series e)) where
  pub kept_at : get_or e.kept.series i (new_kept 0) ≡ kept_of e s
  unfolding kept_of
  kept_at = ap (λ (k : ℕ). get_or e.kept.series k (new_kept 0)) at

  pub live_at : get_or e.live.series i no_live ≡ live_of e s
  unfolding live_of
  live_at = ap (λ (k : ℕ). get_or e.live.series k no_live) at

  -- With what is now kept of it and what it now has on this connection.
  pub series-at : (date : TradeDate) (last : ℕ) (live : LiveSeries)
      → series_at e i (record { series = s; date = date; last = last }) live ≡ with_series e s date last live
  unfolding with_series
  series-at date last live = rw at

  pub start-at : 32768 * i ≡ part_start e s
  unfolding part_start
  start-at = ap (λ (k : ℕ). 32768 * k) at

-- All parts take 32,768 bytes for each open series; a count above 8 is 8.
module _ (e : Receiver) (places : Eight e) where
  pub parts-few : e.kept.count ≤ 8 → 32768 * e.kept.count ≡ all_parts e
  unfolding all_parts kept_series
  parts-few h =
      let k = length-map (take e.kept.count e.kept.series) kept_number in
      let n = length-take-le e.kept.count e.kept.series (rw places.kept h) in
      ap (λ (k : ℕ). 32768 * k) (sym (k ∙ n))

  pub parts-most : 8 ≤ e.kept.count → 262144 ≡ all_parts e
  unfolding all_parts kept_series
  parts-most h =
      let k = length-map (take e.kept.count e.kept.series) kept_number in
      let n = take_all e.kept.count e.kept.series (rw places.kept h) in
      ap (λ (k : ℕ). 32768 * k) (sym (k ∙ ap length n ∙ places.kept))
