use Prim.Native.Nat.{ℕ}
use mathlib.Core.Path.{◌≡◌, refl}
use native.Mathlib.Omega.{arith}
use lib.ListN.{length, take, length-take}
use borrow.Author.Rules.{rules}
use Rattle.std.specs.Prelude.{Some, None}
use Rattle.std.specs.List.{position}
use Rattle.flow.specs.declared.checkpoint.Checkpoints.{Checkpoints}
use Rattle.flow.specs.Checkpoints.{used_names}
use Rattle.flow.specs.CheckpointHelpers.{FindsName}
use Rattle.flow.specs.Types.{NamePlace}
use Rattle.flow.proofs.series.Positions.{has, absent, found}
use Rattle.flow.proofs.checkpoint.Places.{name_in}
use Rattle.flow.proofs.checkpoint.Checkpoints.find.Goals as goal

finds : (x : Checkpoints) (code : ℕ) (r : NamePlace) → length x.places ≡ 4
    → r ≡ position (has name_in code) (take x.count x.places) → FindsName x code r
unfolding used_names
finds x code None h p = absent name_in code (take x.count x.places) None p refl
finds x code (Some i) h p =
    let two = found name_in code (take x.count x.places) (Some i) p i refl in
    (two.0, two.1, omega (arith, simp length-take at two.2))

pub returns : goal.returns
returns c =
    let four : length c.args.self.now.places ≡ 4 = search rules in
    finds c.args.self.now c.args.name c.place.result four c.place.ensures
