use borrow.Author.Rules.{rules}
use Rattle.play.proofs.state.Turns.{shown-least}
use Rattle.play.proofs.state.shown_places.Goals as goal

pub returns : goal.returns
returns c = search (rules, shown-least)
