use Rattle.exports.proofs.serving.served.Goals as goal

pub returns : goal.returns
returns c = rw c.flag_of.ensures
