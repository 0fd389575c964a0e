use Rattle.exports.proofs.Refusals.{refusals-leave}
use Rattle.exports.proofs.keeps_refusals.Goals as goal

pub returns : goal.returns
returns c = refusals-leave
