use borrow.Author.Rules.{rules}
use Rattle.ftd.specs.Composition.{composed}
use Rattle.ftd.proofs.composition.is_composed.Goals as goal

pub returns : goal.returns
unfolding composed
returns c = rw (← c.direction_number.ensures) (c.all_hold.ensures c.args.content.now (λ fid n k. search rules))
