use borrow.Author.Rules.{rules}
use Rattle.flow.proofs.receive.Whole.{series-message, series-other}
use Rattle.flow.proofs.receiver.series_in.Goals as goal

pub returns-in-Message : goal.returns-in-Message
returns-in-Message c = search (rules, series-message)

pub returns-in_default : goal.returns-in_default
returns-in_default c = search (rules, series-other)
