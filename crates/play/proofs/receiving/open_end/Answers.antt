use borrow.Author.Rules.{rules}
use Rattle.play.proofs.serving.Shown.{opened-is}
use Rattle.play.proofs.receiving.Shown.{receiver-is}
use Rattle.play.proofs.receiving.open_end.Goals as goal

pub returns : goal.returns
returns c = (search (rules, receiver-is), search (rules, opened-is), search rules)
