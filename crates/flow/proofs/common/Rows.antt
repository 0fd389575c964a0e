-- How a claim goes along a row of tests, and along what is found at a place. Assumes nothing.
use mathlib.Core.Path.{◌≡◌, refl}
use mathlib.Core.Bool.{Bool, true, false}
use Rattle.flow.specs.Ends.{◌when◌else◌}
use mathlib.Core.Option.{Option, none, some}
use Rattle.flow.specs.World.{World, with}

-- A claim of a row: of its first answer where the test holds, of the rest where it does not.
pub by-when : {A : Type 0} (P : A → Type 0) (test : Bool) {x y : A} → (test ≡ true → P x) → (test ≡ false → P y)
    → P (x when test else y)
by-when P true f g = f refl
by-when P false f g = g refl

-- A claim of a world that goes on with what is at a place on the line.
pub by-given : {A : Type 0} (P : World → Type 0) (w : World) (o : Option A) {f : A → World} → P w
    → ((x : A) → o ≡ some x → P (f x)) → P (with w o f)
by-given P w none h k = h
by-given P w (some x) h k = k x refl
