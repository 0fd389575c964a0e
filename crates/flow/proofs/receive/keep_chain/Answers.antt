use Rattle.flow.proofs.receive.keep_chain.Goals as goal

pub returns : goal.returns
returns c = rw c.one_more.ensures
