use borrow.Author.Rules.{rules}
use Rattle.play.proofs.words.Turns.{colon-place, colon-within}
use Rattle.play.proofs.words.colon_at.Goals as goal

pub returns : goal.returns
returns c = rw c.unwrap_or.ensures (search (rules, colon-place), search (rules, colon-within))
