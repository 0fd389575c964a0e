use borrow.Author.Rules.{rules}
use Rattle.ftd.proofs.parts.Three.{three-widths}
use Rattle.ftd.proofs.parts.three_wrong_width.Goals as goal

pub returns-then-wrong_width-2 : goal.returns-then-wrong_width-2
returns-then-wrong_width-2 c = rw (three-widths _ _ _ c.requires.0 c.requires.1) (search rules)

pub returns-else-wrong_width-2 : goal.returns-else-wrong_width-2
returns-else-wrong_width-2 c = rw (three-widths _ _ _ c.requires.0 c.requires.1) (search rules)
