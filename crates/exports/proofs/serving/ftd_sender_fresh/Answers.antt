use Rattle.exports.proofs.serving.ftd_sender_fresh.Goals as goal

pub returns : goal.returns
returns c = rw (← c.fresh.ensures) c.sender_numbers.ensures
