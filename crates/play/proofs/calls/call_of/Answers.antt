use borrow.Author.Rules.{rules}
use Rattle.play.proofs.words.Parts.{taken}
use Rattle.play.proofs.calls.Rows.{line-is}
use Rattle.play.proofs.calls.call_of.Goals as goal

pub slice_bounds-verb_of-end : goal.slice_bounds-verb_of-end
slice_bounds-verb_of-end c = search (rules, taken)

pub returns : goal.returns
returns c = search (rules, line-is)
