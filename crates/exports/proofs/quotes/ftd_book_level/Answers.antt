use borrow.Author.Rules.{rules}
use Rattle.exports.proofs.quotes.Answers.{level-none, level-at}
use Rattle.exports.proofs.quotes.ftd_book_level.Goals as goal

pub returns-in-None : goal.returns-in-None
returns-in-None c = search (rules, level-none)

pub returns-in-Some : goal.returns-in-Some
returns-in-Some c = search (rules, level-at)
