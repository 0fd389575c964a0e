use Rattle.flow.proofs.sender.Sender.message_of.Goals as goal

pub returns : goal.returns
returns c = rw c.be32.ensures
