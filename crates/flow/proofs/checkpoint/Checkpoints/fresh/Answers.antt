use mathlib.Core.Path.{refl}
use Rattle.flow.specs.Ends.{fresh_receiver}
use Rattle.flow.specs.Checkpoints.{fresh_checkpoints}
use Rattle.flow.proofs.checkpoint.Checkpoints.fresh.Goals as goal

pub returns : goal.returns
unfolding fresh_checkpoints fresh_receiver
returns c = rw c.fresh.ensures refl
