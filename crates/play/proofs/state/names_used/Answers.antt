use borrow.Author.Rules.{rules}
use Rattle.flow.proofs.series.Places.{unmapped}
use Rattle.play.proofs.state.Names.{used-least}
use Rattle.play.proofs.state.names_used.Goals as goal

pub returns : goal.returns
returns c = search (rules, used-least, unmapped)
