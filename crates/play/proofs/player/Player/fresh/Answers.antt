use borrow.Author.Rules.{rules}
use Rattle.play.proofs.player.Shown.{fresh-is}
use Rattle.play.proofs.player.Player.fresh.Goals as goal

pub returns : goal.returns
returns c = search (rules, fresh-is)
