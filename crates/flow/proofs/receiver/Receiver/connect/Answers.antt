use Rattle.flow.specs.Receiving.{connect_of}
use Rattle.flow.proofs.receiver.Receiver.connect.Goals as goal

pub returns : goal.returns
unfolding connect_of
returns c = rw c.no_line.ensures
