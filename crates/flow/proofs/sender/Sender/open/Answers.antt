use borrow.Author.Rules.{rules}
use Rattle.std.proofs.Common.{arith}
use Rattle.std.proofs.lemmas.Grind.{common_steps}
use Rattle.flow.specs.Serving.{open_day_of}
use Rattle.flow.proofs.series.Rule.{right-few}
use Rattle.flow.proofs.room.Sums.{reserves-many}
use Rattle.flow.proofs.sender.Opening.{opening-done}
use Rattle.flow.proofs.sender.Sender.open.Goals as goal

pub returns-then-wrong_series : goal.returns-then-wrong_series
unfolding open_day_of
returns-then-wrong_series c = grind (arith, common_steps)

pub new_places-requires : goal.new_places-requires
new_places-requires c = (search (rules, right-few), search (rules, reserves-many))

pub returns : goal.returns
returns c = search (rules, opening-done)
