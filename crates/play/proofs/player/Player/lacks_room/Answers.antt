use Rattle.std.proofs.Common.{arith}
use Rattle.std.proofs.lemmas.Grind.{common_steps}
use Rattle.play.specs.Played.{lacks_room}
use Rattle.play.proofs.player.Player.lacks_room.Goals as goal

pub returns-then-log-self : goal.returns-then-log-self
unfolding lacks_room
returns-then-log-self c = grind (arith, common_steps)

pub returns-else-log-self : goal.returns-else-log-self
unfolding lacks_room
returns-else-log-self c = grind (arith, common_steps)
