-- Opening, test by test: what the call leaves meets its promise. Assumes nothing.
use Prim.Native.Nat.{ℕ, ◌≤◌}
use native.Mathlib.Omega.{arith}
use mathlib.Core.Path.{◌≡◌, refl}
use mathlib.Core.List.{List, map}
use mathlib.Core.Bool.{Bool, true, false}
use borrow.Author.Tests.{eq-eqb}
use lib.ListN.{length, replicate}
use lib.Dec.{eqb}
use Rattle.flow.specs.declared.receiver.KeptSeries.{KeptSeries}
use Rattle.flow.specs.declared.receiver.Live.{Live}
use Rattle.flow.specs.declared.receiver.Receiver.{Receiver}
use Rattle.flow.specs.Ends.{wrong_series, filled, new_kept, no_live}
use Rattle.flow.specs.Receiving.{open_end_of}
use Rattle.flow.specs.Promises.{OpensEnd}
use Rattle.std.specs.Prelude.{Ok}

module _ (e : Receiver) (ss : List ℕ) (fresh : e.kept.count ≤ 0) (wrong : Bool) (w : wrong ≡ wrong_series ss) where
  none : eqb e.kept.count 0 ≡ true
  none = eq-eqb e.kept.count 0 (omega arith)

  pub opening-done : wrong ≡ false → (all : List KeptSeries) → all ≡ filled (new_kept 0) (map new_kept ss)
      → (line : Live) → line ≡ record { series = replicate 8 no_live }
      → OpensEnd e ss
      (record { end = record { kept = record { count = length ss; series = all }; live = line }; answer = (Ok tt) })
  unfolding open_end_of
  opening-done t all f line g = rw (none, ← w, t, f, g) (refl, (refl, refl))
