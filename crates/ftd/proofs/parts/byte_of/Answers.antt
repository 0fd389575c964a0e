use Rattle.ftd.proofs.parts.Across.{byte-head, byte-tail}
use borrow.Author.Rules.{rules}
use Rattle.ftd.proofs.parts.byte_of.Goals as goal

pub returns-then-i-head : goal.returns-then-i-head
returns-then-i-head c = search (rules, byte-head)

pub returns : goal.returns
returns c = search (rules, byte-tail)
