use borrow.Author.Rules.{rules}
use Rattle.ftd.specs.Packet.{said_in, not_one_packet}
use Rattle.ftd.proofs.Tests.{tests}
use Rattle.ftd.proofs.packet.not_one_packet.Goals as goal

pub returns-then-p-lt4 : goal.returns-then-p-lt4
unfolding not_one_packet
returns-then-p-lt4 c = search tests

pub returns-else-p-lt4 : goal.returns-else-p-lt4
unfolding not_one_packet said_in
returns-else-p-lt4 c = search (rules, tests)
