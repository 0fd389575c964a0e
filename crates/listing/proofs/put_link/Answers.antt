use native.Mathlib.Omega.{arith}
use Rattle.listing.specs.Lines.{link_text}
use Rattle.listing.proofs.put_link.Goals as goal

pub returns-then-is_heart : goal.returns-then-is_heart
unfolding link_text
returns-then-is_heart c =
    rw (
      ← c.is_heart.ensures,
      c.if-is_heart.true,
    ) (c.put_word.ensures, omega arith)

pub returns-else-is_heart : goal.returns-else-is_heart
unfolding link_text
returns-else-is_heart c =
    rw (
      ← c.is_heart.ensures,
      c.if-is_heart.false,
    ) (c.put_word-else-is_heart.ensures, omega arith)
