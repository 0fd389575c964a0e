use Rattle.exports.proofs.receiving.ftd_request_login.Goals as goal

pub returns : goal.returns
returns c =
    let g = rw c.receiver_for.ensures at c.request_login.ensures in
    record { answer = rw (← g.0.1) c.bytes_of.ensures; output = g.1 }
