-- What each way through the content check decides, over plain variables. Assumes nothing.
use Prim.Native.Nat.{ℕ}
use mathlib.Core.Path.{◌≡◌}
use mathlib.Core.List.{List}
use mathlib.Core.Bool.{Bool, false}
use Rattle.ftd.specs.Fields.{shaped}
use Rattle.ftd.specs.Content.{content_check}
use Rattle.ftd.specs.declared.refusal.Refusal.TheVariants.{FieldRun}
use Rattle.ftd.specs.declared.composition.Direction.{Direction}
use Rattle.std.specs.Prelude.{Err}

module _ (tid : ℕ) (d : Direction) (content : List ℕ) (limit : ℕ) (b : Bool) (s : b ≡ shaped content limit) where
  pub by_shape : b ≡ false → Err FieldRun ≡ content_check tid d content limit
  unfolding content_check
  by_shape n = rw (← s, n)
