use borrow.Author.Rules.{rules}
use Rattle.ftd.proofs.whole.Laws.{int-wide, int-read}
use Rattle.ftd.proofs.whole.read_int.Goals as goal

pub returns-then-s-eq4 : goal.returns-then-s-eq4
returns-then-s-eq4 c = search (rules, int-read)

pub returns : goal.returns
returns c = search (rules, int-wide)
