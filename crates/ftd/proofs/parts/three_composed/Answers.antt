use borrow.Author.Rules.{rules}
use Rattle.ftd.specs.Composition.{composed}
use Rattle.ftd.specs.Content.Helpers.{three}
use Rattle.ftd.proofs.parts.three_composed.Goals as goal

pub returns : goal.returns
unfolding composed
returns c =
    rw (← c.direction_number.ensures)
    (c.all_hold.ensures (three c.args.first.now c.args.across.now c.args.last.now) (λ fid n k. search rules))
