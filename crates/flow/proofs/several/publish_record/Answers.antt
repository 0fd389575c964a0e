use borrow.Author.Rules.{rules}
use Rattle.flow.proofs.several.Published.{record-published}
use Rattle.flow.proofs.several.publish_record.Goals as goal

pub returns : goal.returns
returns c = search (rules, record-published)
