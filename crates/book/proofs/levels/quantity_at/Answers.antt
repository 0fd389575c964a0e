use mathlib.Core.Path.{◌∙◌, ap}
use Rattle.book.specs.Levels.{held_by, empty}
use lib.ListN.{get_or}
use Prim.Native.Nat.{ℕ}
use Rattle.book.specs.Levels.{quantity_at}
use Rattle.book.proofs.levels.quantity_at.Goals as goal

pub returns : goal.returns
unfolding quantity_at
returns c = c.held_at.ensures
    ∙ ap (λ (i : ℕ). held_by c.args.new.price (get_or c.args.side.levels i empty)) c.place_of.ensures.0
