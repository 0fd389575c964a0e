use borrow.Author.Rules.{rules}
use Rattle.play.proofs.words.Turns.{end-is, end-within}
use Rattle.play.proofs.words.word_end.Goals as goal

pub returns : goal.returns
returns c = rw c.unwrap_or.ensures (search (rules, end-is), search rules, search (rules, end-within))
