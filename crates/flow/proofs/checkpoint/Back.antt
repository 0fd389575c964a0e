-- What a return brings back of a series, by its place. Assumes nothing.
use Prim.Native.Nat.{ℕ}
use mathlib.Core.Path.{◌≡◌}
use lib.ListN.{get_or}
use Rattle.flow.specs.Types.{SeriesPlace}
use Rattle.flow.specs.declared.receiver.KeptSeries.{KeptSeries}
use Rattle.flow.specs.declared.receiver.Receiver.{Receiver}
use Rattle.flow.specs.Ends.{new_kept}
use Rattle.flow.specs.Helpers.{FindsKept}
use Rattle.flow.specs.CheckpointHelpers.{brought_from}
use Rattle.flow.proofs.receiver.Lookups.{found_at, kept_at}
use Rattle.std.specs.Prelude.{Some, None}

module _ (e : Receiver) (x : KeptSeries) (f : SeriesPlace) (g : FindsKept e x.series f) where
  pub brought-none : f ≡ None → record { series = x.series; date = None; last = 0 } ≡ brought_from e x
  brought-none u =
      let closed : FindsKept e x.series None = rw u at g in
      rw closed

  pub brought-found : (i : ℕ) → f ≡ Some i →
      let one = get_or e.kept.series i (new_kept 0) in
      record { series = x.series; date = one.date; last = one.last } ≡ brought_from e x
  brought-found i u =
      let found = found_at e x.series f i g u in
      rw (found.0, kept_at e x.series i found.1)
