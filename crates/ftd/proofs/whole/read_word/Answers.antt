use borrow.Author.Rules.{rules}
use Rattle.ftd.proofs.whole.Laws.{word_wide, word_read}
use Rattle.ftd.proofs.whole.read_word.Goals as goal

pub returns-then-s-eq2 : goal.returns-then-s-eq2
returns-then-s-eq2 c = search (rules, word_read)

pub returns : goal.returns
returns c = search (rules, word_wide)
