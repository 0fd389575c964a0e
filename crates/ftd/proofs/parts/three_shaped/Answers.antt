use borrow.Author.Rules.{rules}
use Rattle.ftd.proofs.parts.Three.{three-shape}
use Rattle.ftd.proofs.parts.three_shaped.Goals as goal

pub returns-then-is_shaped-2 : goal.returns-then-is_shaped-2
returns-then-is_shaped-2 c = rw (three-shape _ _ _ c.requires.0 c.requires.1 _ c.requires.2) (search rules)

pub returns-else-is_shaped-2 : goal.returns-else-is_shaped-2
returns-else-is_shaped-2 c = rw (three-shape _ _ _ c.requires.0 c.requires.1 _ c.requires.2) (search rules)
