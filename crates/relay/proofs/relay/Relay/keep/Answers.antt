use Rattle.relay.proofs.relay.Handing.{keeps-as}
use borrow.Author.Rules.{rules}
use Rattle.relay.proofs.relay.Relay.keep.Goals as goal

-- src/relay.rt:355:5
pub returns : goal.returns
returns c = search (rules, keeps-as)
