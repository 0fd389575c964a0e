use borrow.Author.Rules.{rules}
use Rattle.play.proofs.words.Turns.{hex-is}
use Rattle.play.proofs.words.all_hex.Goals as goal

pub returns : goal.returns
returns c = hex-is c.args.word.now c.all.result (search rules) (search rules)
