use borrow.Author.Rules.{rules}
use Rattle.play.proofs.state.Turns.{date-none, date-at}
use Rattle.play.proofs.state.put_date.Goals as goal

pub returns-in-None : goal.returns-in-None
returns-in-None c = (search (rules, date-none), search rules)

pub returns-in-Some : goal.returns-in-Some
returns-in-Some c = (search (rules, date-at), search rules)
