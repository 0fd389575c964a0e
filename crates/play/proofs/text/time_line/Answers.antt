use borrow.Author.Rules.{rules}
use Rattle.play.proofs.text.Turns.{time-outside, time-inside}
use Rattle.play.proofs.text.time_line.Goals as goal

pub returns-in-None : goal.returns-in-None
returns-in-None c = (search (rules, time-outside), search rules)

pub returns-in-Some : goal.returns-in-Some
returns-in-Some c = (search (rules, time-inside), search rules)
