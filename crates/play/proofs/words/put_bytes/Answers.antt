use borrow.Author.Rules.{rules}
use Rattle.play.proofs.words.Turns.{length-bytes, bytes-start, bytes-turn, bytes-over}
use Rattle.play.proofs.words.put_bytes.Goals as goal

pub loop-i-init : goal.loop-i-init
loop-i-init c = search (rules, bytes-start)

pub loop-i-preserved : goal.loop-i-preserved
loop-i-preserved c = search (rules, bytes-turn)

pub returns : goal.returns
returns c = (search (rules, bytes-over), search (rules, length-bytes), search rules)
