use Rattle.exports.proofs.boxes.seat_sent.Goals as goal
use Rattle.std.proofs.Common.{rules, ◌≡◌, None, Ok}
use Rattle.flow.specs.Types.{message_sent}

pub returns-in-Ok-None : goal.returns-in-Ok-None
returns-in-Ok-None c =
    let q : c.args.a ≡ Ok None = search rules in
    rw q

pub returns-in-Ok-Some : goal.returns-in-Ok-Some
returns-in-Ok-Some c =
    let q : c.args.a ≡ message_sent c.in-Ok-Some.number c.in-Ok-Some.len = search rules in
    rw q

pub returns-in-Err : goal.returns-in-Err
returns-in-Err c = rw (c.in-Err.is, c.number.ensures)
