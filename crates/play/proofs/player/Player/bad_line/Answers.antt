use borrow.Author.Rules.{rules}
use Rattle.play.proofs.player.Shown.{bad-is}
use Rattle.play.proofs.player.Player.bad_line.Goals as goal

pub returns : goal.returns
returns c = (search rules, search (rules, bad-is), search rules)
