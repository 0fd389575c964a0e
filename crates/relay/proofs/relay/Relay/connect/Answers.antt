use Rattle.relay.proofs.relay.Towards.{connects-is}
use borrow.Author.Rules.{rules}
use Rattle.relay.proofs.relay.Relay.connect.Goals as goal

-- src/relay.rt:211:5
pub returns : goal.returns
returns c = search (rules, connects-is)
