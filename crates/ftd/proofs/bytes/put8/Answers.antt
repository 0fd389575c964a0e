use mathlib.Core.List.{[], ◌∷◌}
use native.Mathlib.Omega.{arith}
use Rattle.ftd.proofs.bytes.Put.{sets-put}
use Rattle.ftd.proofs.bytes.put8.Goals as goal

pub returns : goal.returns
returns c = (sets-put (c.args.x ∷ []) c.args.out.now c.args.at (omega arith))
