use Rattle.book.proofs.Refusals.{refusals-leave}
use Rattle.book.proofs.keeps_refusals.Goals as goal

pub returns : goal.returns
returns c = refusals-leave
