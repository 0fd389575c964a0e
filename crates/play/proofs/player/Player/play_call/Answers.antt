use borrow.Author.Rules.{rules}
use Rattle.play.proofs.player.Plays.{call-ready, call-start}
use Rattle.play.proofs.player.Player.play_call.Goals as goal

pub returns-then-self : goal.returns-then-self
returns-then-self c = search (rules, call-ready)

pub returns : goal.returns
returns c = search (rules, call-start)
