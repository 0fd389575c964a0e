use borrow.Author.Rules.{rules}
use Rattle.book.proofs.levels.Search.{level-absent}
use Rattle.book.proofs.levels.level_in.Goals as goal

pub returns-in_err-one : goal.returns-in_err-one
returns-in_err-one c = search (rules, level-absent)
