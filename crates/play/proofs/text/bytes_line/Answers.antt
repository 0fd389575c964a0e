use borrow.Author.Rules.{rules}
use native.Mathlib.Omega.{arith}
use Rattle.listing.proofs.Texts.{wrote-both}
use Rattle.play.specs.Lines.{bytes_line, word_line}
use Rattle.play.proofs.text.bytes_line.Goals as goal

pub returns : goal.returns
unfolding bytes_line word_line
returns c = (
  wrote-both (omega arith)
      (wrote-both (omega arith) (wrote-both (omega arith) c.put_numbered-n.ensures.0 c.put_word-n.ensures) c.put_content-n.ensures.0)
      c.put_byte.ensures,
  search rules,
)
