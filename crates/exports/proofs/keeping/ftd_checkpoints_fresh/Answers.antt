use Rattle.exports.proofs.keeping.ftd_checkpoints_fresh.Goals as goal

pub returns : goal.returns
returns c = rw (← c.fresh.ensures) c.into.ensures
