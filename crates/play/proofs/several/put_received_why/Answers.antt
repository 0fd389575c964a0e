use borrow.Author.Rules.{rules}
use Rattle.play.proofs.several.Shown.{why-end, why-short, why-message, why-refused}
use Rattle.play.proofs.several.put_received_why.Goals as goal

pub returns-in-End : goal.returns-in-End
returns-in-End c = (search (rules, why-end), search rules)

pub returns-in-Short : goal.returns-in-Short
returns-in-Short c = (search (rules, why-short), search rules)

pub returns-in-Complete : goal.returns-in-Complete
returns-in-Complete c = (search (rules, why-message), search rules)

pub returns-in-Refused : goal.returns-in-Refused
returns-in-Refused c = (search (rules, why-refused), search rules)
