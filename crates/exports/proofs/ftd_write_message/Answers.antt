use Rattle.exports.proofs.ftd_write_message.Goals as goal

pub returns : goal.returns
returns c =
    rw (← c.into.ensures) record { answer = rw (← c.write_chain.ensures.answer) c.written.ensures; output = c.write_chain.ensures.output }
