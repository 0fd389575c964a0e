use borrow.Author.Rules.{rules}
use Rattle.flow.proofs.several.Published.{record-cut, record-short, record-whole}
use Rattle.flow.proofs.several.record_size.Goals as goal

pub returns-then-left-lt10 : goal.returns-then-left-lt10
returns-then-left-lt10 c = (search (rules, record-cut), search rules)

pub returns-then-left-n : goal.returns-then-left-n
returns-then-left-n c = (search (rules, record-short), search rules)

pub returns : goal.returns
returns c = (search (rules, record-whole), search rules)
