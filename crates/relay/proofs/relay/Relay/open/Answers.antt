use Rattle.relay.proofs.relay.Towards.{open-short, few-reserves, open-taken, open-refused}
use borrow.Author.Rules.{rules}
use Rattle.relay.proofs.relay.Relay.open.Goals as goal

-- src/relay.rt:184:13
pub returns-then-reserves-series : goal.returns-then-reserves-series
returns-then-reserves-series c = search (rules, open-short)

-- src/relay.rt:198:31
pub all_reserves-requires : goal.all_reserves-requires
all_reserves-requires c = search (rules, few-reserves)

-- src/relay.rt:180:5
pub returns : goal.returns
returns c = search (rules, open-taken)

-- src/relay.rt:180:5
pub returns-in-Err : goal.returns-in-Err
returns-in-Err c = search (rules, open-refused)
