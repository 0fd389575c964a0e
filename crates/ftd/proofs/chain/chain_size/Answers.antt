use mathlib.Core.Path.{◌∙◌}
use borrow.Author.Rules.{rules}
use Rattle.ftd.proofs.chain.Pieces.{size-over, size_is}
use Rattle.ftd.proofs.chain.chain_size.Goals as goal

pub returns-then-content-gt-MOST_CONTENT : goal.returns-then-content-gt-MOST_CONTENT
returns-then-content-gt-MOST_CONTENT c = search (rules, size-over)

pub returns : goal.returns
returns c = c.measure.ensures ∙ search (rules, size_is)
