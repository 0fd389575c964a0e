use borrow.Author.Rules.{rules}
use Rattle.play.proofs.player.Plays.{no-log, no-chain, laid_out-plays}
use Rattle.play.proofs.player.Player.play_buffers.Goals.{then-log-size-via-then-log-size}
use Rattle.play.proofs.player.Player.play_buffers.Goals.{then-log-size-via-else-log-size+then-chain-part}
use Rattle.play.proofs.player.Player.play_buffers.Goals as goal

pub returns-then-log-size : goal.returns-then-log-size
returns-then-log-size c =
    elim c.then-log-size.branch [
      | then-log-size-via-then-log-size w ↦ search (rules, no-log)
      | then-log-size-via-else-log-size+then-chain-part w ↦ search (rules, no-chain)
    ]

pub returns : goal.returns
returns c = search (rules, laid_out-plays)
