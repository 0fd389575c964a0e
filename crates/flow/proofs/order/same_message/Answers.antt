use borrow.Author.Rules.{rules}
use Rattle.flow.proofs.order.Bytes.{same-tid}
use Rattle.flow.proofs.order.same_message.Goals as goal

pub returns-then-be32 : goal.returns-then-be32
returns-then-be32 c = search (rules, same-tid)
