use borrow.Author.Rules.{rules}
use Rattle.play.proofs.words.Turns.{reserve-behind, no-reserve-behind}
use Rattle.play.proofs.words.read_reserve.Goals as goal

pub returns-then-e-word : goal.returns-then-e-word
returns-then-e-word c = search (rules, reserve-behind)

pub returns : goal.returns
returns c = search (rules, no-reserve-behind)
