use Prim.Native.Nat.{ℕ}
use mathlib.Core.Path.{◌≡◌, refl}
use native.Mathlib.Omega.{arith}
use lib.ListN.{length, take, length-take}
use Rattle.std.specs.Prelude.{Some, None}
use Rattle.std.specs.List.{position}
use Rattle.flow.specs.declared.sender.Sender.{Sender}
use Rattle.flow.specs.Ends.{is_served, day_series}
use Rattle.flow.specs.Helpers.{Finds}
use Rattle.flow.specs.Types.{SeriesPlace}
use Rattle.flow.proofs.series.Positions.{has, absent, found}
use Rattle.flow.proofs.ends.SenderLookups.{number_in}
use Rattle.flow.proofs.sender.Lookups.{eight}
use Rattle.flow.proofs.sender.Sender.find.Goals as goal

finds : (e : Sender) (s : ℕ) (r : SeriesPlace) → length e.day.series ≡ 8
    → r ≡ position (has number_in s) (take e.day.count e.day.series) → Finds e s r
unfolding is_served day_series
finds e s None h p = absent number_in s (take e.day.count e.day.series) None p refl
finds e s (Some i) h p =
    let two = found number_in s (take e.day.count e.day.series) (Some i) p i refl in
    (two.0, two.1, omega (arith, simp length-take at two.2))

pub returns : goal.returns
returns c = finds c.args.self c.args.series c.place.result (eight c.args.self _ c.well_formed.0).series c.place.ensures
