use borrow.Author.Rules.{rules}
use native.Mathlib.Omega.{arith}
use Rattle.listing.proofs.Texts.{wrote-both}
use Rattle.play.specs.State.{kept_line}
use Rattle.play.proofs.state.put_kept.Goals as goal

pub returns : goal.returns
unfolding kept_line
returns c =
    (wrote-both (omega arith) c.put_kept_text-n.ensures.0 c.put_live_text.ensures.0, search rules)
