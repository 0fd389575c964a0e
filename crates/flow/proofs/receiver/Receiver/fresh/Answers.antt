use Rattle.flow.specs.Ends.{fresh_receiver}
use Rattle.flow.proofs.receiver.Receiver.fresh.Goals as goal

pub returns : goal.returns
unfolding fresh_receiver
returns c = rw (c.new.ensures, c.no_line.ensures)
