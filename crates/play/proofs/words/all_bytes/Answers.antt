use borrow.Author.Rules.{rules}
use Rattle.play.proofs.words.Arguments.{bytes-first, bytes-more, bytes-wrong, all-over}
use Rattle.play.proofs.words.all_bytes.Goals as goal

pub loop-j-init : goal.loop-j-init
loop-j-init c = search (rules, bytes-first)

pub loop-j-preserved : goal.loop-j-preserved
loop-j-preserved c = search (rules, bytes-more)

pub returns-then-not-says_bytes : goal.returns-then-not-says_bytes
returns-then-not-says_bytes c = search (rules, bytes-wrong)

pub returns : goal.returns
returns c = search (rules, all-over)
