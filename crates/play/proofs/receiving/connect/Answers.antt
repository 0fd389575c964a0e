use borrow.Author.Rules.{rules}
use Rattle.play.proofs.receiving.Shown.{receiver-is}
use Rattle.play.proofs.receiving.connect.Goals as goal

pub returns : goal.returns
returns c = (search (rules, receiver-is), search rules, search rules)
