use borrow.Author.Rules.{rules}
use Rattle.play.specs.Lines.{content_text}
use Rattle.play.proofs.text.put_content.Goals as goal

pub returns-then-is_empty : goal.returns-then-is_empty
unfolding content_text
returns-then-is_empty c = (search rules, search rules)

pub returns : goal.returns
unfolding content_text
returns c = (search rules, search rules)
