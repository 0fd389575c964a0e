use borrow.Author.Rules.{rules}
use Rattle.flow.proofs.several.Sizes.{packet-none-at, packet-whole-at, packet-inside}
use Rattle.flow.proofs.several.packet_size.Goals as goal

pub returns-then-missing-gt0 : goal.returns-then-missing-gt0
returns-then-missing-gt0 c = (search (rules, packet-none-at), search rules)

pub returns : goal.returns
returns c = (search (rules, packet-whole-at), search (rules, packet-inside))
