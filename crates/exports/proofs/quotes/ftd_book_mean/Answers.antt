use borrow.Author.Rules.{rules}
use Rattle.exports.proofs.quotes.Answers.{mean-none, mean-is}
use Rattle.exports.proofs.quotes.ftd_book_mean.Goals as goal

pub returns-in-None : goal.returns-in-None
returns-in-None c = search (rules, mean-none)

pub returns-in-Some : goal.returns-in-Some
returns-in-Some c = search (rules, mean-is)
