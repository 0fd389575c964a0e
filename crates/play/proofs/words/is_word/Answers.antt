use borrow.Author.Rules.{rules}
use Rattle.play.proofs.words.Turns.{same-is}
use Rattle.play.proofs.words.is_word.Goals as goal

pub returns : goal.returns
returns c = search (rules, same-is)
