use Rattle.exports.proofs.ftd_message_size.Goals as goal

pub returns-in-Ok : goal.returns-in-Ok
returns-in-Ok c =
    rw (
      ← c.into.ensures,
      ← c.chain_size.ensures,
      c.in-Ok.is,
    )

pub returns-in-Err : goal.returns-in-Err
returns-in-Err c =
    rw (
      ← c.into.ensures,
      ← c.chain_size.ensures,
      c.in-Err.is,
      c.number.ensures,
    )
