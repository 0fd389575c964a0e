use Rattle.relay.proofs.relay.Towards.{late-past}
use borrow.Author.Rules.{rules}
use Rattle.relay.proofs.relay.is_late.Goals as goal

-- src/relay.rt:102:9
pub returns-then-confirm_past : goal.returns-then-confirm_past
returns-then-confirm_past c = search (rules, late-past)
