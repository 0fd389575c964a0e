use Rattle.calendar.proofs.Refusals.{refusals-leave}
use Rattle.calendar.proofs.trading.keeps_refusals.Goals as goal

pub returns : goal.returns
returns c = refusals-leave
