use borrow.Author.Rules.{rules}
use Rattle.play.proofs.several.Shown.{why-all, why-cut, why-not}
use Rattle.play.proofs.several.put_published_why.Goals as goal

pub returns-in-End : goal.returns-in-End
returns-in-End c = (search (rules, why-all), search rules)

pub returns-in-Short : goal.returns-in-Short
returns-in-Short c = (search (rules, why-cut), search rules)

pub returns-in-Refused : goal.returns-in-Refused
returns-in-Refused c = (search (rules, why-not), search rules)
