use borrow.Author.Tests.{lt-ltb}
use Rattle.ftd.proofs.Tests.{tests}
use Rattle.flow.proofs.checkpoint.Checkpoints.keep_new.Goals as goal

pub returns-then-n-lt4 : goal.returns-then-n-lt4
returns-then-n-lt4 c = simp (c.with_at.ensures, lt-ltb _ _ c.if-n-lt4.true)

pub returns : goal.returns
returns c = search tests
