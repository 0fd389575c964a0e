use borrow.Author.Rules.{rules}
use Rattle.play.proofs.serving.Shown.{packet-sender, packet-shown, packet-bytes}
use Rattle.play.proofs.serving.send_packet.Goals as goal

pub returns : goal.returns
returns c = ((search (rules, packet-sender), search (rules, packet-shown), search rules), search (rules, packet-bytes))
