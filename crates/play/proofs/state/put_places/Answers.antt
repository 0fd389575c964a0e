use borrow.Author.Rules.{rules}
use native.Mathlib.Omega.{arith}
use Rattle.listing.proofs.Texts.{wrote-both}
use Rattle.play.specs.Lines.{word_line}
use Rattle.play.specs.State.{places_line, places_lines}
use Rattle.play.proofs.state.put_places.Goals as goal

pub returns : goal.returns
unfolding places_lines places_line word_line
returns c =
    let t2 = wrote-both (omega arith) c.put_numbered-n.ensures.0 c.put_byte-n.ensures in (
      rw (← c.names_used.ensures.0) (wrote-both (omega arith) t2 c.put_checkpoints.ensures.0),
      search rules,
    )
