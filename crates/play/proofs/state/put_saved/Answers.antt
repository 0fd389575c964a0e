use borrow.Author.Rules.{rules}
use native.Mathlib.Omega.{arith}
use Rattle.listing.proofs.Texts.{wrote-both}
use Rattle.play.specs.Lines.{word_line}
use Rattle.play.specs.State.{saved_series}
use Rattle.play.proofs.state.put_saved.Goals as goal

pub returns : goal.returns
unfolding saved_series word_line
returns c =
    (wrote-both (omega arith) c.put_kept_text-n.ensures.0 c.put_byte.ensures, search rules)
