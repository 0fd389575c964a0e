use mathlib.Core.Path.{sym, ◌∙◌}
use borrow.Author.Rules.{rules}
use Rattle.flow.proofs.sender.Publishing.{publish-content}
use Rattle.flow.proofs.sender.Sender.publish.Goals as goal

pub publish_passed-requires : goal.publish_passed-requires
publish_passed-requires c =
    sym c.check_content.ensures ∙ c.in_default.is

pub returns-in-Err : goal.returns-in-Err
returns-in-Err c = search (rules, publish-content)
