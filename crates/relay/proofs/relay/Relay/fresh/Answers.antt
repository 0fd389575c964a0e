use Rattle.relay.proofs.relay.Towards.{fresh-is}
use borrow.Author.Rules.{rules}
use Rattle.relay.proofs.relay.Relay.fresh.Goals as goal

-- src/relay.rt:142:5
pub returns : goal.returns
returns c = search (rules, fresh-is)
