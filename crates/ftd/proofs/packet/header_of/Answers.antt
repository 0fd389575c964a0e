use Rattle.ftd.proofs.packet.Verdicts.{header_made}
use borrow.Author.Rules.{rules}
use Rattle.ftd.proofs.packet.header_of.Goals as goal

pub returns : goal.returns
returns c = search (rules, header_made)
