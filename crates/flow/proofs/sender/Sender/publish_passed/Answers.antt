use borrow.Author.Rules.{rules}
use Rattle.flow.proofs.sender.Lookups.{found_at}
use Rattle.flow.proofs.sender.Publishing.{publish-unknown}
use Rattle.flow.proofs.sender.Sender.publish_passed.Goals as goal

pub publish_at-requires : goal.publish_at-requires
publish_at-requires c =
    (c.requires, found_at _ _ _ _ c.find.ensures c.in-Some.is)

pub returns-in_default : goal.returns-in_default
returns-in_default c = search (rules, publish-unknown)
