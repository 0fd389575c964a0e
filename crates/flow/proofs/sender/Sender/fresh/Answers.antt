use mathlib.Core.Path.{refl}
use Rattle.flow.specs.Ends.{fresh_sender}
use Rattle.flow.proofs.sender.Sender.fresh.Goals as goal

pub returns : goal.returns
unfolding fresh_sender
returns c = rw c.new.ensures refl
