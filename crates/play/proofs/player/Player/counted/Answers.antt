use Rattle.ftd.proofs.Tests.{tests}
use Rattle.play.specs.Played.{counted_player}
use Rattle.play.proofs.player.Player.counted.Goals as goal

pub returns-then-self-lt4294967295 : goal.returns-then-self-lt4294967295
unfolding counted_player
returns-then-self-lt4294967295 c = search tests

pub returns : goal.returns
unfolding counted_player
returns c = search tests
