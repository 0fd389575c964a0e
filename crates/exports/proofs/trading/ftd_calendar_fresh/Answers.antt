use Rattle.exports.proofs.trading.ftd_calendar_fresh.Goals as goal

pub returns : goal.returns
returns c = rw c.fresh.ensures at c.into.ensures
