use borrow.Author.Rules.{rules}
use native.Mathlib.Omega.{arith}
use Rattle.listing.proofs.Texts.{wrote-both}
use Rattle.play.specs.State.{checkpoint_lines}
use Rattle.play.proofs.state.put_checkpoint.Goals as goal

pub returns : goal.returns
unfolding checkpoint_lines
returns c =
    (wrote-both (omega arith) c.put_named-n.ensures.0 c.put_all_saved.ensures.0, search rules)
