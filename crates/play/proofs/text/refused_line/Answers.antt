use borrow.Author.Rules.{rules}
use Rattle.play.proofs.text.Turns.{refused-is, refused-short}
use Rattle.play.proofs.text.refused_line.Goals as goal

pub returns : goal.returns
returns c = (search (rules, refused-is), search rules, search (rules, refused-short))
