use Rattle.exports.proofs.receiving.ftd_receiver_fresh.Goals as goal

pub returns : goal.returns
returns c = rw (← c.fresh.ensures) c.receiver_numbers.ensures
