use Rattle.exports.proofs.trading.ftd_ask_calendar.Goals as goal

pub returns-in-None : goal.returns-in-None
returns-in-None c =
    rw (
      ← c.from.ensures,
      ← c.ask.ensures,
      c.in-None.is,
    )

pub returns-in-Some : goal.returns-in-Some
returns-in-Some c =
    rw (
      ← c.from.ensures,
      ← c.ask.ensures,
      c.in-Some.is,
    )
