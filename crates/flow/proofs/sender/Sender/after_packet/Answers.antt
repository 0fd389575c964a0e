use Rattle.flow.proofs.sender.Sender.after_packet.Goals as goal

pub returns-then-last : goal.returns-then-last
returns-then-last c = rw c.if-last.true c.with_place.ensures

pub returns : goal.returns
returns c = rw c.if-last.false c.with_place-2.ensures
