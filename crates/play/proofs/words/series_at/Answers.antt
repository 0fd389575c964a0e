use borrow.Author.Rules.{rules}
use Rattle.play.proofs.words.Arguments.{no-series, some-series}
use Rattle.play.proofs.words.series_at.Goals as goal

pub returns-then-x-gt65535 : goal.returns-then-x-gt65535
returns-then-x-gt65535 c = (search (rules, no-series), search rules)

pub returns : goal.returns
returns c = (search (rules, some-series), search rules)
