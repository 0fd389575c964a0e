use native.Mathlib.Omega.{arith}
use borrow.Author.Rules.{rules}
use Rattle.ftd.proofs.texts.Laws.{trim-found, trim-none}
use Rattle.ftd.proofs.texts.text_size.Goals as goal

pub returns-in-Some : goal.returns-in-Some
returns-in-Some c =
    (trim-found c.args.s.now c.in-Some.last (search rules) (search rules) (search rules), search rules)

pub returns-in-None : goal.returns-in-None
returns-in-None c = (trim-none c.args.s.now (search rules), omega arith)
