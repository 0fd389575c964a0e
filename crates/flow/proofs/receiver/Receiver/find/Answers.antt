use Prim.Native.Nat.{ℕ}
use mathlib.Core.Path.{◌≡◌, refl}
use native.Mathlib.Omega.{arith}
use borrow.Author.Rules.{rules}
use lib.ListN.{length, take, length-take}
use Rattle.std.specs.Prelude.{Some, None}
use Rattle.std.specs.List.{position}
use Rattle.flow.specs.declared.receiver.Receiver.{Receiver}
use Rattle.flow.specs.Ends.{is_open, kept_series}
use Rattle.flow.specs.Helpers.{FindsKept}
use Rattle.flow.specs.Types.{SeriesPlace}
use Rattle.flow.proofs.series.Positions.{has, absent, found}
use Rattle.flow.proofs.receiver.Lookups.{kept_number}
use Rattle.flow.proofs.series.Places.{unmapped}
use Rattle.flow.proofs.receiver.Receiver.find.Goals as goal

finds : (e : Receiver) (s : ℕ) (r : SeriesPlace) → length e.kept.series ≡ 8
    → r ≡ position (has kept_number s) (take e.kept.count e.kept.series) → FindsKept e s r
unfolding is_open kept_series
finds e s None h p = absent kept_number s (take e.kept.count e.kept.series) None p refl
finds e s (Some i) h p =
    let two = found kept_number s (take e.kept.count e.kept.series) (Some i) p i refl in
    (two.0, two.1, omega (arith, simp length-take at two.2))

pub returns : goal.returns
returns c =
    let whole : length c.args.self.now.kept.series ≡ 8 = search (rules, unmapped) in
    finds c.args.self.now c.args.series c.place.result whole c.place.ensures
