use borrow.Author.Rules.{rules}
use Rattle.play.proofs.quoting.Shown.{mean-is}
use Rattle.play.proofs.quoting.show_mean.Goals as goal

pub returns : goal.returns
returns c = (search rules, search (rules, mean-is), search rules)
