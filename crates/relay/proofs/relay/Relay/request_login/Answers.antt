use Rattle.relay.proofs.relay.Towards.{asks-is}
use borrow.Author.Rules.{rules}
use Rattle.relay.proofs.relay.Relay.request_login.Goals as goal

-- src/relay.rt:219:5
pub returns : goal.returns
returns c = search (rules, asks-is)
