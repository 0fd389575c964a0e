use borrow.Author.Rules.{rules}
use Rattle.play.proofs.text.Turns.{published-as, published-not, published-short}
use Rattle.play.proofs.text.published_line.Goals as goal

pub returns-in-Ok : goal.returns-in-Ok
returns-in-Ok c = (search (rules, published-as), search rules, search (rules, published-short))

pub returns-in-Err : goal.returns-in-Err
returns-in-Err c = (search (rules, published-not), search rules, search rules)
