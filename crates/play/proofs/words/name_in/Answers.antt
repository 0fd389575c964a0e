use borrow.Author.Rules.{rules}
use Rattle.play.proofs.words.Arguments.{name-empty, name-whole}
use Rattle.play.proofs.words.name_in.Goals as goal

pub returns-then-is_word : goal.returns-then-is_word
returns-then-is_word c = search (rules, name-empty)

pub returns : goal.returns
returns c = search (rules, name-whole)
