use native.Mathlib.Omega.{arith}
use borrow.Author.Rules.{rules}
use Rattle.listing.proofs.Texts.{wrote-both}
use Rattle.play.specs.Lines.{word_line}
use Rattle.play.proofs.text.number_line.Goals as goal

pub returns : goal.returns
unfolding word_line
returns c = (
  wrote-both (omega arith) c.put_numbered-n.ensures.0
      c.put_byte.ensures,
  search rules,
)
