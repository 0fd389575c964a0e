use borrow.Author.Rules.{rules}
use Rattle.flow.proofs.sender.Opening.{places-turn, places-end}
use Rattle.flow.proofs.sender.new_places.Goals as goal

pub loop-i-preserved : goal.loop-i-preserved
loop-i-preserved c = search (rules, places-turn)

pub returns : goal.returns
returns c = search (rules, places-end)
