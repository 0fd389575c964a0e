use borrow.Author.Rules.{rules}
use Rattle.play.proofs.player.Plays.{start-buffers, start-other}
use Rattle.play.proofs.player.Player.play_start.Goals as goal

pub returns-in-Buffers : goal.returns-in-Buffers
returns-in-Buffers c = search (rules, start-buffers)

pub returns-in_default : goal.returns-in_default
returns-in_default c = search (rules, start-other)
