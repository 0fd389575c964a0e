use borrow.Author.Rules.{rules}
use Rattle.std.proofs.Common.{arith}
use Rattle.std.proofs.lemmas.Grind.{common_steps}
use Rattle.flow.specs.Receiving.{open_end_of}
use Rattle.flow.proofs.series.Rule.{right-few}
use Rattle.flow.proofs.receiver.Opening.{opening-done}
use Rattle.flow.proofs.receiver.Receiver.open.Goals as goal

pub returns-then-self-gt0 : goal.returns-then-self-gt0
unfolding open_end_of
returns-then-self-gt0 c = grind (arith, common_steps)

pub new_kept-requires : goal.new_kept-requires
new_kept-requires c = search (rules, right-few)

pub returns : goal.returns
returns c = search (rules, opening-done)
