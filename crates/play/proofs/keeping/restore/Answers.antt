use borrow.Author.Rules.{rules}
use Rattle.play.proofs.receiving.Shown.{receiver-is}
use Rattle.play.proofs.keeping.Shown.{restored-is}
use Rattle.play.proofs.keeping.restore.Goals as goal

pub returns : goal.returns
returns c = (search (rules, receiver-is), search (rules, restored-is), search rules)
