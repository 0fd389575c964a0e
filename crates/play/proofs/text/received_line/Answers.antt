use borrow.Author.Rules.{rules}
use Rattle.play.proofs.text.Turns.{received-idle, received-again, received-held, received-message, received-not}
use Rattle.play.proofs.text.Turns.{passes-idle, passes-again, passes-held, stops-message, stops-refused, again-short, held-short}
use Rattle.play.proofs.text.received_line.Goals as goal

pub returns-in-Idle : goal.returns-in-Idle
returns-in-Idle c = (search (rules, received-idle), search rules, search (rules, passes-idle))

pub returns-in-Duplicate : goal.returns-in-Duplicate
returns-in-Duplicate c = (search (rules, received-again), search rules, search (rules, passes-again, again-short))

pub returns-in-Partial : goal.returns-in-Partial
returns-in-Partial c = (search (rules, received-held), search rules, search (rules, passes-held, held-short))

pub returns-in-Complete : goal.returns-in-Complete
returns-in-Complete c = (search (rules, received-message), search rules, search (rules, stops-message))

pub returns-in-Refused : goal.returns-in-Refused
returns-in-Refused c = (search (rules, received-not), search rules, search (rules, stops-refused))
