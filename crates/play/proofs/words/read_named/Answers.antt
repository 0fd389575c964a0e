use borrow.Author.Rules.{rules}
use Rattle.play.proofs.words.Parts.{taken}
use Rattle.play.proofs.words.Turns.{named-is}
use Rattle.play.proofs.words.read_named.Goals as goal

pub slice_bounds-read_number-end : goal.slice_bounds-read_number-end
slice_bounds-read_number-end c = taken _ _ (search rules)

pub returns : goal.returns
returns c = (search (rules, named-is), search rules)
