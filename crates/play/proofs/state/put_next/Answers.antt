use borrow.Author.Rules.{rules}
use Rattle.play.proofs.state.Turns.{next-in, next-out}
use Rattle.play.proofs.state.put_next.Goals as goal

pub returns-then-place : goal.returns-then-place
returns-then-place c = (search (rules, next-in), search rules)

pub returns : goal.returns
returns c = (search (rules, next-out), search rules)
